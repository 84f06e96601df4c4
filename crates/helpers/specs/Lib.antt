pub mod Padded
pub mod TagFields
pub mod RecordFields
pub mod Layout
pub mod Names
