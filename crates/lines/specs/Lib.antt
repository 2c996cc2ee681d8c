pub mod Typing
pub mod Decimal
