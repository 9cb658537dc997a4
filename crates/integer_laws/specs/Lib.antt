pub mod Determinants
