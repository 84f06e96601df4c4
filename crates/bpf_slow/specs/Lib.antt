pub mod Progress
pub mod Ending
