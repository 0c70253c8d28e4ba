pub mod Form
pub mod Spoken
