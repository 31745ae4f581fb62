-- Laws of reading on from one event of a deck to the next.
pub mod NextEvent
pub mod TimeControl
