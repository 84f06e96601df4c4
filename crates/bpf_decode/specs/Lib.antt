pub mod Faults
pub mod Kept
pub mod OpcodeNumbers
pub mod Encoding
