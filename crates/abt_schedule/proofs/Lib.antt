pub mod Counting
pub mod Determined
pub mod Drawn
pub mod Going
pub mod Leading
pub mod Stopping
pub mod Turning
