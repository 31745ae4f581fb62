-- The table of records, as the code has it, what its rules make of blank fields, and which numbers stand behind its words.
pub mod Tables
pub mod Rows
pub mod OwnRules
pub mod Keys
pub mod Blanks
pub mod Words
