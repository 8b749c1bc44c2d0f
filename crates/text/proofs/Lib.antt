-- The laws of `text`.
pub mod Putting
pub mod Digits
pub mod Hexadecimal
pub mod Lengths
pub mod Writing
-- texts by computation
pub mod Examples
