pub mod Operations
pub mod Arguments
pub mod Refused
pub mod Accepts
pub mod Alternatives
