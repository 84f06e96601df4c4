pub mod Bytes
pub mod Held
pub mod Known
pub mod Loads
pub mod Placed
pub mod Runs
pub mod Stores
pub mod Stretched
