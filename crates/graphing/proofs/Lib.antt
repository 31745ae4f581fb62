-- That two outcomes which meet the contract of this crate are equal.
pub mod Unique
