pub mod Faults
pub mod Framing
pub mod Asked
pub mod Decoding
pub mod Frames
pub mod FrameReading
pub mod Answers
pub mod AnswerReading
