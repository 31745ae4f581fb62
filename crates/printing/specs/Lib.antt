-- What is printed of records and of a refusal, and the laws on it.
pub mod Sizes
pub mod Lines
pub mod Listed
pub mod Room
