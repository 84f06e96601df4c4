pub mod WordBytes
pub mod Spreading
pub mod Outcomes
