-- What the code's reading means, what a record does where it stands, and the name on a KK line.
pub mod Readings
pub mod Places
pub mod Labels
