pub mod Left
pub mod Allowed
pub mod Sights
pub mod Chosen
pub mod Answered
pub mod Theorems
