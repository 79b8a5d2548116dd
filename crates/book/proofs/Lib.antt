pub mod Carried
pub mod Numbering
pub mod Logged
