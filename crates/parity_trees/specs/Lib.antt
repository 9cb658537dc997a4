pub mod Regions
pub mod Works
