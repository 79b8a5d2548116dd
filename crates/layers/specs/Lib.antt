pub mod Limits
pub mod Figures
pub mod SlotRules
pub mod BySlots
pub mod OwnRules
pub mod Tested
