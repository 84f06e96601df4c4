pub mod Quotas
pub mod Lines
