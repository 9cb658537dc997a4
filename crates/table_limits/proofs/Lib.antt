pub mod Kept
pub mod Trees
pub mod Tables
pub mod Entities
pub mod Tokens
pub mod Spellings
