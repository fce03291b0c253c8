mod Complete
mod Fetched
mod Lines
mod Naming
mod Preparing
pub mod Storing
