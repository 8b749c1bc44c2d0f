-- The laws of `mark`.
pub mod Counts
