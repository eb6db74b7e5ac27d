pub mod Accepting
pub mod Front
pub mod NextCommit
pub mod Sent
pub mod Steps
pub mod Tables
