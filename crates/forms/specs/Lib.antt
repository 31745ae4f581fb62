-- A record in its two forms, and its tests.
pub mod Forms
pub mod Tests
pub mod Fault
