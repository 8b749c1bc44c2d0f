-- The laws that belong to no function.

-- of the deck between its events
pub mod Steps
pub mod Cases
pub mod Blocks
pub mod Quiet
pub mod Looks
pub mod Replies
pub mod Examples
-- of the code's deck and calls
pub mod Made
pub mod Runs
pub mod Flags
pub mod Late
pub mod Found
pub mod Held
pub mod Output
pub mod Seen
pub mod Numbers
pub mod Joining
pub mod Filling
