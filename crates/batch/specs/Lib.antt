pub mod Listing
pub mod Heard
pub mod Response
