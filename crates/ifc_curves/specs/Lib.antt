pub mod Segments
pub mod Points
