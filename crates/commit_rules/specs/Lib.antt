pub mod Core
pub mod Answers
pub mod Outcome
