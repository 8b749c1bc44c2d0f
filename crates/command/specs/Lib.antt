-- What the contracts of `command` mean.
pub mod Commands
