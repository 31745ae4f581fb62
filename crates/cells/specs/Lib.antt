-- What stands in a cell, and how much room it takes.
pub mod Sizes
pub mod Cells
pub mod Here
pub mod Shares
pub mod Room
