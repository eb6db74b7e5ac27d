pub mod Inputs
pub mod Lines
pub mod Reading
pub mod Stepping
pub mod Steps
