-- That two outcomes which meet a contract of this crate say the same.
pub mod Unique
