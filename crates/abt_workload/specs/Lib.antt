pub mod Bytes
pub mod Declarable
pub mod Hints
pub mod Judging
pub mod Laws
pub mod Reading
pub mod Slots
