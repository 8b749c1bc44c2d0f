-- What the contracts of `execute` mean.
pub mod Replies
pub mod Execute
