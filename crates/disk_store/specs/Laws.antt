-- Proved facts on the definitions, for the proofs of the crates above.
pub mod Over
pub mod Moments
pub mod Writes
pub mod Crash
