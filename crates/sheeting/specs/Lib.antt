-- The sheet of a deck's block: its size, its text, and that the run's answer leads to it.
pub mod Sizes
pub mod Texts
pub mod Columns
pub mod Deck
pub mod Ordinates
