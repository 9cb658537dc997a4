pub mod Forms
pub mod Primitives
