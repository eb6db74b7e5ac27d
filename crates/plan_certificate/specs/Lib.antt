pub mod Judgement
pub mod Planning
pub mod Says
pub mod Verdict
