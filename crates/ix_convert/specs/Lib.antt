pub mod Answers
pub mod Conversions
pub mod Deliveries
pub mod Runs
pub mod Starts
