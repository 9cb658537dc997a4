mod Orders
mod Tallies
mod Firsts
mod Counts
