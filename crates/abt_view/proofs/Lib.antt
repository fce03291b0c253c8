pub mod Beginning
pub mod Complete
pub mod Concluding
pub mod Preparing
pub mod Ranges
pub mod Joining
pub mod Noting
pub mod Requests
