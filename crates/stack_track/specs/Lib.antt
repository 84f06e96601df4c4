pub mod Cells
pub mod Held
pub mod Accesses
pub mod Steps
