pub mod Falling
pub mod Rows
pub mod Runs
pub mod Sizes
