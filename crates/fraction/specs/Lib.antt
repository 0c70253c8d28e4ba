pub mod Sum
pub mod Fraction
pub mod Order
pub mod OrderLaws
pub mod Limits
pub mod Range
