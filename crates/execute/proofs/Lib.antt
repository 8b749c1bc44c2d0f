-- The laws that belong to no function.
pub mod Written
pub mod Carried
pub mod Parts
pub mod Listed
pub mod Replies
pub mod Faults
pub mod Handed
pub mod Totals
pub mod Shifted
