pub mod Bars
pub mod Columns
pub mod Drawn
pub mod Escape
pub mod Length
pub mod Svg
