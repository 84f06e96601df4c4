pub mod Messages
pub mod AnswerTexts
pub mod Layouts
pub mod Bodies
pub mod Asked
pub mod Wanted
pub mod Answered
pub mod Named
