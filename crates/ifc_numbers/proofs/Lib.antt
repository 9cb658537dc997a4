pub mod Lengths
mod Ratios
