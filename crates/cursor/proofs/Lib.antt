-- The laws that belong to no function.
pub mod Places
