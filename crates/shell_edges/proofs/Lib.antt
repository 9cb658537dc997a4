mod Orders
mod Odds
pub mod Even
mod Sets
