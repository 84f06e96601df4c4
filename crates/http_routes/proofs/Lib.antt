pub mod Cuts
pub mod Found
pub mod Searches
pub mod Plain
pub mod Readings
pub mod Completeness
pub mod Named
