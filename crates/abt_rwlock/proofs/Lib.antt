pub mod Kept
pub mod Lows
pub mod Readers
pub mod Unlocking
