pub mod Alike
pub mod Answering
pub mod Follows
