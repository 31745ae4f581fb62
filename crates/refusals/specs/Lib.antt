-- The numbers of the refusals, and that the definitions refuse by no other.
pub mod Numbers
pub mod Named
