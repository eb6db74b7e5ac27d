pub mod SaidParts
pub mod SaidSteps
