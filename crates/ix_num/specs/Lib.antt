pub mod Magnitudes
pub mod Words
