pub mod Lines
pub mod Ends
pub mod Causes
pub mod Asking
pub mod Answering
pub mod Replaying
pub mod Parts
