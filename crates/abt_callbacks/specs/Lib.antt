pub mod Ending
pub mod Folding
pub mod Futures
pub mod Program
pub mod Rings
pub mod Runs
pub mod Seen
pub mod Stored
