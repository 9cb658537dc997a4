pub mod Sizes
pub mod Planes
