pub mod Admitting
pub mod Conditions
pub mod Kept
pub mod Served
