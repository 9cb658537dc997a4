pub mod Digits
pub mod Division
pub mod Far
pub mod Rounding
pub mod Roots
pub mod Fractions
