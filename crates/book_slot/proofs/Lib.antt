pub mod Lines
pub mod Histories
pub mod Views
pub mod Traces
pub mod Keeps
pub mod Calling
pub mod Showing
pub mod Backwards
