-- What the contracts of `mark` mean.
pub mod Answers
