pub mod Made
pub mod Rule
pub mod Calls
pub mod Lots
pub mod Seats
pub mod Holders
pub mod Places
