pub mod Loops
pub mod Profiles
pub mod Shapes
