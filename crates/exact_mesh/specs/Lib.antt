pub mod Meshes
pub mod Ranges
pub mod Order
