-- What the contracts of `text` mean.
pub mod Text
pub mod Writes
pub mod Puts
