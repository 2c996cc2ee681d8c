pub mod Tallied
pub mod Present
pub mod Listing
pub mod Sized
