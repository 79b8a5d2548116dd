pub mod Orders
pub mod Queues
pub mod Entries
pub mod Deadlines
pub mod Plans
