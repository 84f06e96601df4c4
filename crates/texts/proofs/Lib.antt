pub mod JsonTexts
pub mod OwnedValues
pub mod HexBytes
pub mod Numbers
