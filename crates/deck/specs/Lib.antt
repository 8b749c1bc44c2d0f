-- What the contracts of `deck` mean.
pub mod Line
pub mod Events
pub mod Calls
pub mod Joins
pub mod Runs
