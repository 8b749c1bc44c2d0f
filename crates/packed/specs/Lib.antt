-- What the contracts of `packed` mean.
pub mod Numbers
pub mod Packed
pub mod Tail
