-- What the line at a place is, and that it is the first of the deck's lines from there on.
pub mod Line
pub mod Plain
pub mod Endings
pub mod First
