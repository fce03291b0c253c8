pub mod Requests
pub mod Rounds
pub mod Steps
