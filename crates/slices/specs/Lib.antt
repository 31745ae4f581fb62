-- Numbers in bytes; bytes without the last ones that are one byte; where a run of bytes stops.
pub mod Bytes
pub mod Trimmed
pub mod Stops
