pub mod Limbs
pub mod Tally
pub mod First
pub mod Sheet
pub mod Verdict
pub mod Layout
