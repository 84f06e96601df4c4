pub mod Answers
pub mod Commands
pub mod Text
pub mod Assembling
pub mod Causes
pub mod Endings
