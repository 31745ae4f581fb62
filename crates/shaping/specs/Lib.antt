-- What is asked of a block that closes, and what its lines alone decide.
pub mod Limits
pub mod Patterns
pub mod Shapes
