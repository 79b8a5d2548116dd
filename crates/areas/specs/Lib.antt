pub mod Limits
pub mod Areas
pub mod Quotas
pub mod HeldLoads
pub mod Held
pub mod Counted
