pub mod Registries
pub mod Terms
pub mod Newest
