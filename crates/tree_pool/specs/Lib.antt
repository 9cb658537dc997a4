pub mod Trees
pub mod Pools
pub mod Index
pub mod Kept
