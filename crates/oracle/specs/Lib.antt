pub mod Levels
pub mod Little
pub mod Sets
