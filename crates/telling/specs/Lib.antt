-- The hydrograph held last, where the words and the areas have it.
pub mod LastHeld
