pub mod Lowering
pub mod Joining
pub mod Handing
pub mod Results
