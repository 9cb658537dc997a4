pub mod Changes
pub mod Task
pub mod Findings
pub mod Inputs
pub mod Tasks
