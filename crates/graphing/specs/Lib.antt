-- A hydrograph in print: its size, its lines, and what the engine's answer makes of it.
pub mod Sizes
pub mod Texts
pub mod Deck
