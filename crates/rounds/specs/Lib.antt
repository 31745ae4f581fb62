-- Laws of the rounds of a run.
pub mod Rounds
pub mod Every
