pub mod Sections
pub mod Innermost
pub mod Attributes
