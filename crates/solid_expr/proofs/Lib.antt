pub mod Counts
pub mod Prisms
pub mod Outlines
