pub mod Refusing
pub mod Containing
pub mod InTheHouse
pub mod Theorems
