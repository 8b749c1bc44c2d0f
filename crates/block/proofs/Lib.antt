-- The laws of blocks that belong to no function.
pub mod Sums
pub mod Tests
pub mod Reading
pub mod Writing
pub mod RoundTrip
