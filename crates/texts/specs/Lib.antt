pub mod JsonText
pub mod Hexadecimal
pub mod Verdicts
pub mod Outcomes
