pub mod Seated
pub mod Locks
pub mod Slots
