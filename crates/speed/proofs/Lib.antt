-- The laws that belong to no function.
pub mod Rule
pub mod Roots
pub mod Unique
pub mod Sizes
