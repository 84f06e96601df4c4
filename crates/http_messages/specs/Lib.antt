pub mod Lengths
pub mod Fields
pub mod Heads
pub mod Messages
pub mod Fronts
pub mod Readings
