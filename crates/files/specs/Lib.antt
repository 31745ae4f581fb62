-- The laws of result files: both ways of moving as one, files as their records, there and back.
pub mod Joined
pub mod Movers
pub mod Undone
pub mod ThereAndBack
