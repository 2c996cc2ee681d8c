pub mod Allows
pub mod Claims
pub mod Cases
