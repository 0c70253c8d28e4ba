pub mod Concats
pub mod Texts
