-- What the summary of a hydrograph is, and the laws on its peak, its interval and its sum.
pub mod Summary
pub mod Peaks
