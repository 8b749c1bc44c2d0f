-- The laws that belong to no function.
pub mod Exercises
pub mod Looks
pub mod Placed
pub mod Through
pub mod FullMarks
pub mod Examples
-- of the code
pub mod Following
pub mod Written
pub mod Costs
pub mod Caller
pub mod Passed
pub mod Whole
