pub mod States
pub mod Calls
pub mod Joining
pub mod Transfers
pub mod Steps
