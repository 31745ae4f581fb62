-- What a field holds by its rule, and words byte by byte.
pub mod Rules
pub mod Words
