pub mod Asked
pub mod Asking
pub mod Desks
pub mod Upkept
