pub mod Single
pub mod Mentions
pub mod Owned
