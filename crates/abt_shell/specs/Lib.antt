pub mod Calls
pub mod Fetched
pub mod More
pub mod Outputs
pub mod Status
pub mod Told
