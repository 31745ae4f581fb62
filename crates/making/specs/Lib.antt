-- What making a block's hydrograph asks, and what it leaves.
pub mod Made
pub mod Kinds
