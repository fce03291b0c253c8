pub mod Clocking
pub mod Judged
mod Replayed
pub mod Stamping
