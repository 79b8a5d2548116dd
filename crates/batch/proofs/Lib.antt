pub mod Behind
pub mod Responses
pub mod AnyLine
pub mod Brief
