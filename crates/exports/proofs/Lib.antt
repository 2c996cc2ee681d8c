pub mod Cases
pub mod Numbered
pub mod Carried
pub mod Tells
pub mod Occurs
pub mod Theorems
