mod Divisors
mod Quotients
pub mod Forms
