pub mod Filled
pub mod Granted
pub mod Denied
pub mod Answered
pub mod Theorems
