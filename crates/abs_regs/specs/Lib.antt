pub mod Values
pub mod Transfers
pub mod Steps
