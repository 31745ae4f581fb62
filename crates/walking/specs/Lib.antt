-- Laws of the walk over a deck.
pub mod Events
pub mod OneRun
pub mod Going
pub mod ReadingOn
pub mod OpenClosed
pub mod Phases
pub mod Ways
pub mod NextTurn
pub mod Start
pub mod Said
