pub mod Rounding
pub mod Roots
pub mod Fractions
pub mod Decimals
pub mod Words
