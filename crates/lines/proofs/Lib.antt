pub mod Texts
pub mod Lengths
pub mod Turns
pub mod Decimals
