pub mod Calls
pub mod Fetched
pub mod Reports
mod Telling
