pub mod Acts
pub mod Events
pub mod Keys
pub mod Nexts
pub mod Objects
pub mod Phases
pub mod Slots
pub mod Unnumbered
