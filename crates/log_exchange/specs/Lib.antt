pub mod Heads
pub mod Kept
pub mod Laws
pub mod Runs
