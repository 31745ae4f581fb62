-- What the open block's words mean, and the laws of reading and writing them.
pub mod Meant
pub mod Regions
pub mod Cards
pub mod Taking
pub mod Values
pub mod Clearing
