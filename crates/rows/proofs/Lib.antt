pub mod Filled
pub mod Local
pub mod Answered
pub mod Few
pub mod Telling
pub mod Unique
pub mod Theorems
