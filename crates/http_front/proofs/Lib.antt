pub mod LostAnswers
pub mod Phrases
pub mod Services
