pub mod Ordering
pub mod Records
pub mod Committed
pub mod Gathered
pub mod Reading
pub mod Lines
