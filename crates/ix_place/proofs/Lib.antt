pub mod Sizes
pub mod Passed
pub mod Bounded
pub mod Laws
pub mod Rests
pub mod Normals
pub mod Parallel
