pub mod Views
pub mod Fans
