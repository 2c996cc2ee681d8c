pub mod Rules
pub mod Upward
pub mod Turns
pub mod Short
pub mod Answers
