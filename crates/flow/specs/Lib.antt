pub mod Cut
pub mod Filling
pub mod Flow
pub mod Layer
pub mod Lent
pub mod Outcome
pub mod Path
pub mod Sight
