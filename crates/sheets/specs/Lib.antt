pub mod Accounts
pub mod Plans
pub mod Books
pub mod Queued
