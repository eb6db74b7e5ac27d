pub mod FewItems
pub mod LineFeed
pub mod ListReading
pub mod RowSteps
pub mod SpelledForms
pub mod WholeText
pub mod Counting
