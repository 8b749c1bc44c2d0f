-- What the contracts of `effects` mean.
pub mod Effects
