-- What the contracts of `program` mean.
pub mod Messages
