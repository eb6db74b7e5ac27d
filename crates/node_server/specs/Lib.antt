pub mod Arriving
pub mod Rooms
