-- What is printed of one record, and the laws on it.
pub mod Line
pub mod Room
pub mod Listed
