pub mod Unions
pub mod Elements
pub mod Kept
pub mod Cells
