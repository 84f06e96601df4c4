pub mod Runs
pub mod Places
pub mod Texts
pub mod Spelled
pub mod Numbers
pub mod Readings
pub mod Inverse
pub mod Fits
