pub mod Notes
pub mod Sums
pub mod Rings
pub mod Held
pub mod Kept
pub mod KeptLaws
