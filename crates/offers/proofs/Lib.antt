pub mod Waiting
pub mod Marks
pub mod Fitting
pub mod Dues
pub mod Turns
