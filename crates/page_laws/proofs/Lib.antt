pub mod Rounded
pub mod Faces
pub mod Prints
pub mod Pages
