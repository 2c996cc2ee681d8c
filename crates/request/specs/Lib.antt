pub mod Sets
pub mod Asks
