pub mod Generated
pub mod Three
