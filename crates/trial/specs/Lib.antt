pub mod Given
pub mod Sums
