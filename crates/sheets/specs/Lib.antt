-- The lines and the table of a sheet, and how much room they take.
pub mod Sizes
pub mod Tables
pub mod Lines
pub mod Room
