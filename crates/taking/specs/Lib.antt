-- What JR's fields say, and what a line's values do.
pub mod Ratios
pub mod Taken
