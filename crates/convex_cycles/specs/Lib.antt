pub mod Areas
pub mod Cycles
pub mod Sides
