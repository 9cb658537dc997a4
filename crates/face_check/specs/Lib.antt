pub mod Sound
pub mod Sizes
