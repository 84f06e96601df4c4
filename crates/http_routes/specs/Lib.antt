pub mod Table
pub mod Paths
pub mod Routing
pub mod Finding
pub mod EntryNumbers
pub mod Patterns
