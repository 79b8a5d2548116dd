pub mod Parts
pub mod Written
pub mod Numbers
pub mod Lines
pub mod Pieces
pub mod Buffers
pub mod Spaced
