pub mod Acceptance
pub mod Counting
pub mod Printed
pub mod ReadAgain
pub mod Rows
pub mod Fingerprinted
