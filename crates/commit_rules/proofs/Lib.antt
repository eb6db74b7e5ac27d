pub mod Asked
pub mod Looked
pub mod Taken
pub mod Standing
pub mod Answering
