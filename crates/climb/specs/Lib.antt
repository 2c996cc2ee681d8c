pub mod Marking
pub mod Queued
pub mod Answers
