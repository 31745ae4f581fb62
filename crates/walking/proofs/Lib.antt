-- That two outcomes which meet the contract of the walk are equal.
pub mod Unique
