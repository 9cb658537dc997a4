pub mod Templates
pub mod Decimals
pub mod Spelled
pub mod Wanted
pub mod Depth
pub mod Files
pub mod Numbers
