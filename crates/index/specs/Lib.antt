pub mod Rows
pub mod Passes
pub mod Answers
