-- How a field's bytes are read as a number, and that this is the number that the field holds.
pub mod Reading
pub mod Digits
pub mod Decimals
pub mod FieldNumbers
pub mod MoreZeros
