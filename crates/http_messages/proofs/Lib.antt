pub mod Room
pub mod Found
pub mod OneReading
pub mod Decimals
pub mod LengthTexts
pub mod Longer
