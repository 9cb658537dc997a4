pub mod Threes
pub mod Replaced
pub mod Small
pub mod Outlines
pub mod EndLaws
pub mod Opened
