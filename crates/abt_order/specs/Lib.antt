pub mod Places
pub mod Schedulers
pub mod Shapes
pub mod Stored
