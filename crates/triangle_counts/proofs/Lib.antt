pub mod Reaches
pub mod Swept
pub mod Profiles
pub mod Counts
