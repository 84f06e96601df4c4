pub mod Taking
pub mod Running
pub mod Parts
pub mod Causing
pub mod Ending
