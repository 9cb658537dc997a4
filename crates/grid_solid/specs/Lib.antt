pub mod Triangles
pub mod Shapes
pub mod Views
pub mod Bounds
pub mod Bodies
pub mod Counts
