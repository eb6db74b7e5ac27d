pub mod Given
pub mod Slices
pub mod Behind
pub mod Audited
pub mod Passing
pub mod ReadAgain
pub mod Printed
