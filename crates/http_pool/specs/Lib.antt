pub mod Connections
pub mod Workers
