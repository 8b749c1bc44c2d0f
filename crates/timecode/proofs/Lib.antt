-- The laws of BCD bytes, of times and of positions, for any value.
pub mod Bcd
pub mod Lengths
pub mod Times
