pub mod Ring
pub mod Signs
pub mod Products
pub mod Cancel
pub mod Cramer
pub mod Sizes
pub mod Computed
