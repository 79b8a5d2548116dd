pub mod Stretches
pub mod Sorting
pub mod Listing
