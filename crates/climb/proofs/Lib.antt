pub mod Containers
pub mod Queue
pub mod Turns
pub mod Steps
pub mod Exactly
pub mod Onward
pub mod Rows
pub mod Answered
