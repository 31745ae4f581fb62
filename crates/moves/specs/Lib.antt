-- What a case of the mover says before its file, what is printed of it, and how much that is.
pub mod Case
pub mod Sizes
pub mod Told
pub mod Text
