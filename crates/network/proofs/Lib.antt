-- The laws that prove point 3, and the theorems that rest on them. Read the files in this order.
pub mod Pairing
pub mod Flows
pub mod Drawing
pub mod Steps
pub mod Refusals
pub mod Answers
pub mod Ready
pub mod WorkedBlocks
pub mod Point3
pub mod Storms
pub mod Examples
