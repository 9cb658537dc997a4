pub mod Floors
pub mod Sizes
pub mod Images
pub mod Prints
pub mod Copies
pub mod Appended
