pub mod Adding
pub mod Lists
pub mod LastOutcomes
pub mod Fallen
pub mod Order
pub mod Noted
pub mod Keeping
