pub mod Crosses
mod Ended
pub mod Folded
pub mod Numbers
pub mod Rounds
