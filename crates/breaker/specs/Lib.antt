pub mod Sliding
pub mod SlidingLaws
pub mod Situations
pub mod Calls
