pub mod Cycles
pub mod Held
pub mod Replays
pub mod Texts
pub mod Waits
