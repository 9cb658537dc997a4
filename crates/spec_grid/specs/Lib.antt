pub mod Forms
pub mod Rounded
