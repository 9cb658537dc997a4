pub mod Grown
pub mod Covers
mod Below
pub mod Wholes
