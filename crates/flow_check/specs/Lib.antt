pub mod Passes
pub mod Refused
pub mod Routes
