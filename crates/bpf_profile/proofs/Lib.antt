pub mod Budgets
pub mod Contexts
pub mod Edges
pub mod FirstFaults
pub mod Immediates
pub mod Layouts
pub mod Results
pub mod Runs
