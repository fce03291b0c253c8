pub mod Cutting
pub mod Ends
pub mod Lives
pub mod Living
pub mod Looks
pub mod Runs
pub mod Texts
pub mod Waves
