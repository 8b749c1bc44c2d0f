-- What the contract of `speed` means.
pub mod Speed
