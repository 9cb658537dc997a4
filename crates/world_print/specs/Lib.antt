pub mod Ranges
pub mod Steps
pub mod Elements
pub mod Appended
