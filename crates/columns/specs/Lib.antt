-- What the columns of a sheet are, and the laws that lead to them.
pub mod Columns
