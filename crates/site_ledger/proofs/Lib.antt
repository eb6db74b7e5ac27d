pub mod Backed
pub mod Kept
pub mod First
pub mod Ends
pub mod Growth
pub mod Arriving
