pub mod Logs
pub mod Requests
pub mod Books
pub mod Slips
pub mod Parts
pub mod Runs
