pub mod Numbers
pub mod Put
