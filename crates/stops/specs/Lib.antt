pub mod Limits
pub mod Classes
pub mod Refusals
pub mod Tests
pub mod Places
pub mod Slots
pub mod Stops
pub mod Counts
