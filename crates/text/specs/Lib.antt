-- A text written into lent bytes, and the laws on it, on digits, on lines and on the blanks at an end.
pub mod Written
pub mod Counted
pub mod Digits
pub mod Line
pub mod Trim
