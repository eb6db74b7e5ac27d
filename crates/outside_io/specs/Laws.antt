-- Proved facts on the definitions, for the proofs of the crates above.
pub mod Readings
pub mod Talks
