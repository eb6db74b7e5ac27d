pub mod Digits
pub mod Texts
pub mod Lines
pub mod Going
pub mod Fitting
