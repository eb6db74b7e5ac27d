pub mod Judgements
pub mod Planned
pub mod Verdicts
