pub mod Statuses
pub mod Listed
