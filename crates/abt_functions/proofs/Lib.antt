pub mod Divisors
pub mod Residues
pub mod Roots
