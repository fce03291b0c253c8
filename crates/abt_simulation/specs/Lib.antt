pub mod Journals
pub mod Meeting
pub mod Merging
pub mod Simulation
