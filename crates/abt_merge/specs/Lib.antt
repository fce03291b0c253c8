pub mod Heads
pub mod Logs
pub mod Runs
