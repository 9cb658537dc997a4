mod Ways
pub mod Members
pub mod Sounds
