pub mod Calling
pub mod Descent
pub mod Places
pub mod Reporting
pub mod Showing
