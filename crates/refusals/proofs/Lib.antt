pub mod Conditions
pub mod Lines
pub mod Ranges
pub mod Named
pub mod Prohibitions
pub mod Limits
pub mod Cycles
pub mod Accepts
