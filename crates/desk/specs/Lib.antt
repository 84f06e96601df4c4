pub mod Services
pub mod Seats
pub mod Desks
pub mod Kept
pub mod AfterSome
pub mod Calls
