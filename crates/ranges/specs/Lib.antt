pub mod BitwiseLaws
pub mod ConversionLaws
pub mod NumberLaws
pub mod OperationLaws
pub mod OrderLaws
pub mod RangeTable
pub mod ShiftLaws
pub mod SumLaws
