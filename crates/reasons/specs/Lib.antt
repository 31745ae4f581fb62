-- Reasons in print: their size, the rules as they are stated, and the laws of the loop over fields.
pub mod Sizes
pub mod Stated
pub mod Texts
pub mod FirstFields
pub mod Counts
pub mod ByRecord
pub mod FirstLine
pub mod Tells
