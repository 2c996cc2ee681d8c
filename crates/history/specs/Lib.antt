pub mod Steps
pub mod Standing
