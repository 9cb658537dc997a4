pub mod Entries
pub mod Places
pub mod Symbols
pub mod Runs
