-- The laws that belong to no function.
pub mod Numbers
pub mod Forms
pub mod Left
pub mod Answered
pub mod Tests
pub mod Whole
pub mod Passing
pub mod Entries
pub mod Judged
pub mod Taken
pub mod Unique
pub mod Filled
