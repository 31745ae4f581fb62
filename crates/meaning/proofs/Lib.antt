-- Theorems that rest on others, each in the file of the same name as that of specs/ whose figures it is by.
pub mod Zeros
