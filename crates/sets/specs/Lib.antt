pub mod Bit
pub mod Hours
pub mod Iter
