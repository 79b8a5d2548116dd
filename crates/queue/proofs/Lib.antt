pub mod Permuted
pub mod Heaps
pub mod Drained
pub mod Numbers
pub mod TakenDue
pub mod Kept
