pub mod Row
pub mod Growth
pub mod Changed
pub mod Evening
