pub mod Functions
pub mod Primes
pub mod Series
