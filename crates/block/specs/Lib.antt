-- What the contracts of `block` mean.
pub mod Block
pub mod Read
pub mod Write
