pub mod Courses
pub mod Drawing
pub mod Follows
pub mod Reaching
pub mod Runs
pub mod Seeds
