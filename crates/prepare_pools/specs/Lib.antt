pub mod Line
pub mod Waiting
pub mod Touches
pub mod Conflicts
