-- What the contracts of `marker` mean.
pub mod Faults
pub mod Steps
pub mod Marks
