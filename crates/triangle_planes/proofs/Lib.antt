mod Divisors
pub mod Sizes
pub mod Laws
