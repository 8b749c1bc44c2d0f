-- The laws of `report`.
pub mod Lines
pub mod Lengths
pub mod Room
-- of the transcript
pub mod Sized
pub mod Answering
pub mod Passed
-- lines by computation
pub mod Examples
