pub mod Cuts
pub mod Requests
pub mod Taken
