pub mod Causes
pub mod Failing
