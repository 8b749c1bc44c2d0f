-- The laws that belong to no function.
pub mod Bytes
pub mod Numbers
pub mod Units
pub mod Packing
pub mod Tails
