-- The laws of rain, as listed and as a storm's.
pub mod Rains
