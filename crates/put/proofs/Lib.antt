pub mod Joins
pub mod Runs
pub mod Words
pub mod Filling
pub mod Turns
