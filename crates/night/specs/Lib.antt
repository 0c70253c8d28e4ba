pub mod Bytes
pub mod Task
pub mod Format
pub mod Refusal
pub mod Night
pub mod Reading
pub mod Theorems
