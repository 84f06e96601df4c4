pub mod Deciding
pub mod Room
