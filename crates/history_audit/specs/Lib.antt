pub mod Items
pub mod Reading
pub mod Lines
pub mod Auditing
pub mod Versions
pub mod Printing
pub mod Kept
pub mod Recorded
