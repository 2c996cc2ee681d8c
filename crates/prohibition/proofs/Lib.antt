pub mod Passed
pub mod Empty
pub mod TooLong
pub mod Whole
pub mod Lent
