pub mod Accepted
pub mod EdgeKinds
pub mod Marks
pub mod Refusals
pub mod Walks
