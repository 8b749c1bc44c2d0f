-- The turn theorem: the automaton that reads a record, against the turn rules. From the rules to the automaton: Coming to Turned;
-- back: Pieces to Sounds; further entries: Sane, Extends; the fault numbers: Awaiting, Faults; the whole: Walk, Theorem; that it
-- is the only answer: Unique; how many turns: Counts.
pub mod Handed
pub mod Lists
pub mod Readings
pub mod Opening
pub mod Coming
pub mod Ran
pub mod Accepts
pub mod Turned
pub mod Pieces
pub mod Cuts
pub mod Sounds
pub mod Sane
pub mod Extends
pub mod Awaiting
pub mod Faults
pub mod Walk
pub mod Theorem
pub mod Unique
pub mod Counts
-- an entry by its kind: well formed, handed to the deck
pub mod Forms
pub mod ByKind
pub mod KindTests
-- entries as bytes
pub mod Bytes
pub mod Records
pub mod Fitting
pub mod Examples
