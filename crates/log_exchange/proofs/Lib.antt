pub mod Ahead
pub mod Backlogs
pub mod Filled
pub mod Fronts
pub mod Lines
pub mod Passing
pub mod Needed
pub mod Rising
