pub mod Sizes
pub mod Divisors
pub mod Books
pub mod Signed
pub mod Reduction
pub mod Multiples
pub mod Laws
pub mod Meets
