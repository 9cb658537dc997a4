pub mod Reduced
pub mod Headline
