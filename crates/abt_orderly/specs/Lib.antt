pub mod Listing
pub mod Needs
pub mod Passing
pub mod Scanning
