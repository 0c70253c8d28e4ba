pub mod Puts
pub mod Writes
pub mod Accepts
pub mod Sheeted
