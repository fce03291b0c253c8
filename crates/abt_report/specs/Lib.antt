pub mod Guesses
pub mod Journals
pub mod Outputs
pub mod Pictures
pub mod Tallies
