-- What the contracts of `completion` mean, and the claim of full marks.
pub mod Completed
pub mod Calls
