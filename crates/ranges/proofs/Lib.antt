pub mod InOrder
pub mod Formed
pub mod ByFields
pub mod Ordered
pub mod Rules
