pub mod Exists
pub mod Heard
mod Small
