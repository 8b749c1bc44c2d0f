-- What the contracts of `streams` mean.
pub mod Came
