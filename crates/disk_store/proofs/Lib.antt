pub mod Clearing
pub mod Fill
pub mod Records
pub mod Torn
pub mod Windows
