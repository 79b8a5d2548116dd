pub mod Positions
pub mod Counts
pub mod Slotwise
pub mod Calls
