-- Laws of the block of a number in a deck.
pub mod Place
pub mod Seeking
pub mod Said
