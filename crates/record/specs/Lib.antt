-- What the contracts of `record` and the marker mean: entries, the turn rules, demand 3, and entries as bytes.
pub mod Entries
pub mod Turns
pub mod Marks
pub mod Machine
pub mod Bytes
