-- The kind of a block by one number, which the records that are there make.
pub mod Masks
pub mod Kinds
