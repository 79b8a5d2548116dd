pub mod Backward
pub mod RoundSearch
pub mod FleetSearch
pub mod OneRound
pub mod Summing
pub mod Theorems
