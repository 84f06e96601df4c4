pub mod Services
pub mod Rows
pub mod Stays
pub mod Breakers
pub mod Classifiers
pub mod Promises
