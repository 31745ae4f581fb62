-- That two outcomes which meet the contract of the search are equal.
pub mod Unique
