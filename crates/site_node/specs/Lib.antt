pub mod Node
pub mod Settling
