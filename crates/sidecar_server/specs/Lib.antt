pub mod Numbering
pub mod Opened
pub mod Seats
pub mod Slotted
pub mod Served
pub mod Server
