pub mod Written
pub mod Planned
