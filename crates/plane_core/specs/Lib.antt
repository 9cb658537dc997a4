pub mod Numbers
pub mod Views
pub mod Planes
pub mod Books
