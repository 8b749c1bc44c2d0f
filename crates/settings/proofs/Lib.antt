-- The laws that belong to no function.
pub mod Flags
pub mod StatusBytes
