pub mod Outlines
pub mod Others
pub mod Ends
pub mod Curves
