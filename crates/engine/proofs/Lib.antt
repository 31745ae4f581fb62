-- That two outcomes which meet the contract of the run are equal, and point 3 of the program.
pub mod Unique
pub mod Order
