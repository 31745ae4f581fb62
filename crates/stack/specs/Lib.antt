-- What is held as the work words have it, and the laws of holding, adding, joining and routing there.
pub mod Adding
pub mod Sums
pub mod View
pub mod Joining
pub mod Limits
pub mod Kinds
