-- What the contracts of `report` mean.
pub mod Text
pub mod Verdict
pub mod Transcript
pub mod Answered
