pub mod Pairs
pub mod Balance
