pub mod Words
pub mod ProhibitionWords
pub mod Given
