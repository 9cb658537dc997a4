pub mod PageLines
pub mod Templates
pub mod Limits
pub mod Readings
