pub mod Points
pub mod Reduced
pub mod Sums
