pub mod Sides
pub mod Same
pub mod Lines
pub mod Books
pub mod Changes
