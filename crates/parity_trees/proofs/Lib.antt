mod Lists
pub mod Cells
mod Crossings
mod Sums
mod Weights
mod Frames
mod Steps
mod Tops
