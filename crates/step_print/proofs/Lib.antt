pub mod Capitals
pub mod Longer
pub mod Spelled
pub mod Apart
pub mod Placed
pub mod Moved
pub mod Prints
