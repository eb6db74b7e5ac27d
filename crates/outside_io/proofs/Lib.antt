pub mod Lines
pub mod PeerTurns
pub mod Reading
pub mod Turns
pub mod Untold
pub mod Written
