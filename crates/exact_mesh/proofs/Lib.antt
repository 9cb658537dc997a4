pub mod Sizes
pub mod Rings
pub mod Fans
pub mod Prints
