pub mod Headed
pub mod Fillings
pub mod Bounded
pub mod Wholes
