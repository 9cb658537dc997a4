pub mod Triangles
pub mod Solids
pub mod Planes
pub mod Extrusions
