pub mod Compared
pub mod Computed
pub mod Described
pub mod Joins
