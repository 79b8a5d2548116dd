pub mod Split
pub mod Counted
pub mod Parted
pub mod Digits
pub mod Growing
pub mod Back
