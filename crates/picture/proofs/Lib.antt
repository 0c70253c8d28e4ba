pub mod Drawing
pub mod Escaping
pub mod Lengths
