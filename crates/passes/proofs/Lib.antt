-- The theorems that rest on others. Read the files in this order.
pub mod InOrder
pub mod Together
pub mod Walks
pub mod Alike
pub mod Loop
