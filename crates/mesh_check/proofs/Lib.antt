mod Nearest
mod Found
mod Pairs
mod Offsets
mod Parts
mod Walked
