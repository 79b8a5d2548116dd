pub mod Limits
pub mod Values
pub mod Entries
pub mod Setups
pub mod Sheets
pub mod Verbs
pub mod Calls
