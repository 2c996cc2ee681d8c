pub mod Below
pub mod Placed
pub mod Classes
pub mod Counted
pub mod Written
pub mod Granted
