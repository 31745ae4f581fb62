-- What a round is lent, and of two rounds what is met first.
pub mod Lent
pub mod Sooner
