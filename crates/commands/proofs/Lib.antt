pub mod Sections
pub mod Entered
pub mod Written
pub mod Called
