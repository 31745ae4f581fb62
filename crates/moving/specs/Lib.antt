-- What the mover answers, and the laws of moving.
pub mod Answers
pub mod Records
pub mod Loops
pub mod Faults
pub mod Ways
pub mod Directions
pub mod Outcomes
