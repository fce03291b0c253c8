pub mod Keeps
pub mod Waiting
