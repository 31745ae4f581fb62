-- What was accepted before trailing zeros were taken off (document 02, request 7) has the same answer now. Read the files in this order.
pub mod Reader
pub mod ByReader
pub mod Followed
pub mod Alike
pub mod Answers
pub mod Figures
