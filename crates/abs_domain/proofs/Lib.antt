pub mod Branched
mod Compared
pub mod Contained
mod Halves
mod Shifts
mod Signed
mod Differing
mod Sharing
