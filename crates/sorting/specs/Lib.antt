-- What a line comes to.
pub mod Sorted
