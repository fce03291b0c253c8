pub mod Counts
pub mod Naming
pub mod Output
pub mod Pieces
pub mod Process
pub mod Seen
