-- What a case says before its deck, what is printed of it, and how much that is.
pub mod Case
pub mod Sizes
pub mod Text
pub mod Fronts
