pub mod Arrivals
pub mod Keeps
