pub mod Views
pub mod Voiding
