pub mod Answers
pub mod Counted
pub mod Readers
pub mod States
