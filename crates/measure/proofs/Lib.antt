pub mod Placed
pub mod Passing
pub mod Filling
pub mod Judged
pub mod Longest
pub mod Numbers
pub mod Accepted
