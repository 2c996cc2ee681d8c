pub mod Stowable
