-- What a turn of the walk leaves.
pub mod Turns
