pub mod Sighted
pub mod Parts
pub mod Ranges
pub mod Restrictions
