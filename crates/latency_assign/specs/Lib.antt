pub mod Assignment
pub mod Search
