pub mod Numbers
pub mod Containments
pub mod Beginnings
pub mod Stepped
pub mod Runs
pub mod OneRun
pub mod Impostors
pub mod Theorems
