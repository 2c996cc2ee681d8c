pub mod Printing
pub mod Allows
pub mod Running
pub mod Claims
