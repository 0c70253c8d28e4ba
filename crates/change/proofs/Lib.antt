pub mod Growth
pub mod Soundness
pub mod Applied
pub mod Evenings
