-- What the contracts of `line` mean.
pub mod Word
