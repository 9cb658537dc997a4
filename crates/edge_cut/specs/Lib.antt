pub mod Seen
pub mod Sides
pub mod Cuts
pub mod Outlines
pub mod Stretches
pub mod Lines
pub mod Rounds
