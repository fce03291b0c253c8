pub mod Calling
pub mod Counters
pub mod Counts
pub mod Letters
pub mod Trays
pub mod Turns
