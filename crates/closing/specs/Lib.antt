-- What closing a block leaves, that what is told of it is its result, what the run carries from block to block, and the laws of all three.
pub mod Sizes
pub mod ClosedBlock
pub mod ToldResult
pub mod NamedOrdinates
pub mod BetweenBlocks
