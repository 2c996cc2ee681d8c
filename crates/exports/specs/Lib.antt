pub mod Codes
pub mod Allows
pub mod Claims
