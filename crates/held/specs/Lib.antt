pub mod Lacking
pub mod Giving
pub mod Passing
