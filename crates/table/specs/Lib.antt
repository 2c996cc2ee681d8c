pub mod Layout
pub mod View
pub mod Facts
pub mod Answers
