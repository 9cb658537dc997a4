pub mod Residual
pub mod Steps
pub mod Best
pub mod Gaps
pub mod Words
pub mod Unique
pub mod Places
