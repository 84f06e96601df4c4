pub mod Alone
pub mod Bare
pub mod Computing
pub mod Executing
