pub mod Numerals
pub mod Grids
pub mod Choices
