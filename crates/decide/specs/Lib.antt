pub mod Answers
pub mod Asks
pub mod Results
