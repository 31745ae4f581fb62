-- What is asked of a result file, and what an acceptance and a move say of their room.
pub mod Kept
