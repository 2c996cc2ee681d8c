pub mod Classes
pub mod Associations
pub mod Eights
pub mod Passing
pub mod Turns
pub mod Sighted
