pub mod Texts
pub mod Writing
pub mod Members
pub mod Entries
pub mod Pages
pub mod Responses
pub mod Listing
pub mod Answered
