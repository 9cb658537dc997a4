pub mod Near
pub mod Outcomes
