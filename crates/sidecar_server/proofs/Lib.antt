pub mod Cutting
pub mod Openings
pub mod Crews
pub mod Seating
pub mod Endings
pub mod Along
pub mod SlotSeating
mod LockSeating
