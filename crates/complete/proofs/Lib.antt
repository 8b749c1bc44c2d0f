-- The laws that belong to no function.
pub mod Prints
