pub mod Sending
mod LockSeats
mod SlotSeats
