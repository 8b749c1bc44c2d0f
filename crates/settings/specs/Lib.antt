-- What the contracts of `settings` mean.
pub mod Settings
pub mod Status
