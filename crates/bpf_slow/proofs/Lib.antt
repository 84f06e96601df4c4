pub mod Bytes
pub mod Traces
