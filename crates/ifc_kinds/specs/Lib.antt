pub mod Keywords
pub mod Rows
