pub mod Measures
pub mod Answers
