-- Bytes in hexadecimal digits.
pub mod Hex
