-- What one pass over a line's fields keeps.
pub mod Pass
pub mod Scans
pub mod FieldsLeft
pub mod WholeLine
