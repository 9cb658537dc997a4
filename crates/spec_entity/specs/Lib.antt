pub mod Reads
pub mod Units
pub mod Points
pub mod Operators
pub mod Elements
