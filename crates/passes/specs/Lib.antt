-- Laws of a run under several ratios. The definitions stand in the crate meaning; Apart says what the code does.
pub mod Apart
pub mod Figures
pub mod Scripts
pub mod Does
pub mod InOrder
pub mod Together
pub mod One
pub mod Walks
pub mod Alike
pub mod Loop
