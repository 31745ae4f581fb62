-- What reading on comes to, and what a line does to it.
pub mod Found
pub mod OneLine
pub mod AtLine
