pub mod DefaultAccepted
pub mod Delivered
pub mod Edges
pub mod FirstFault
pub mod Forms
pub mod Held
pub mod JoinedStates
pub mod JoinOf
mod JumpFirst
pub mod Known
pub mod KnownJoin
pub mod Sound
pub mod Taken
pub mod Marked
pub mod Refused
