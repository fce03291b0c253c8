pub mod About
pub mod Apps
pub mod Asked
pub mod Commands
pub mod Lives
pub mod Rests
pub mod Steps
pub mod Versions
