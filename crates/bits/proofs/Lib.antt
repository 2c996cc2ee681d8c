pub mod Spelling
pub mod Places
pub mod InBytes
pub mod Turns
pub mod Answers
pub mod Afterwards
pub mod Examples
