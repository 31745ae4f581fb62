-- What a pond's table is, and the laws of level-pool routing.
pub mod Tables
pub mod Interpolation
pub mod Outflows
pub mod Limits
pub mod Refusals
pub mod Hundredths
pub mod Spans
pub mod Levels
pub mod Searches
pub mod Turns
pub mod Pools
pub mod Balance
