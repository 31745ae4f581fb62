-- The theorems that rest on others. Read the files in this order.
pub mod Values
pub mod Followed
pub mod Answers
