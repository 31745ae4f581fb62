-- What the value of a field is, in units of the places that it allows, and how large its number can be.
pub mod Values
pub mod Units
pub mod SmallNumbers
