-- What becomes of the files that the engine makes.
pub mod Records
pub mod Files
