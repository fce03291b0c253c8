pub mod Crosses
pub mod Finds
mod Halves
pub mod Kept
mod Walks
