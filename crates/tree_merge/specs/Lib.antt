pub mod Tables
pub mod Works
