-- What the contracts of `timecode` mean.
pub mod Bcd
pub mod Time
