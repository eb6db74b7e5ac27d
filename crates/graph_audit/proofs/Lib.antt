pub mod Triples
pub mod Keyed
pub mod Each
pub mod More
pub mod Some
pub mod Taken
pub mod Said
