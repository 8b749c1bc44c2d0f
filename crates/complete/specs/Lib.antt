-- What the contracts of `complete` mean.
pub mod Printed
