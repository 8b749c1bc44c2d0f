-- What the contracts of `cursor` mean.
pub mod Cursors
