pub mod Returning
pub mod Ranks
