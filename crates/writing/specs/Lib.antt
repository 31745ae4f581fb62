-- What is written of a closed block, where there is room for it.
pub mod WrittenResult
