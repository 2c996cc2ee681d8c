pub mod Accepted
pub mod Policies
pub mod Zeros
pub mod Performed
pub mod Theorems
pub mod Again
mod Calls
