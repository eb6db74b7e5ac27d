pub mod Counting
pub mod FirstRows
