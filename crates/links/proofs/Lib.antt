pub mod Numbered
pub mod Parts
pub mod Free
pub mod Placing
pub mod Lifting
pub mod Above
pub mod Cycle
