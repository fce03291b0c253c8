pub mod Answered
pub mod Listed
pub mod Locals
pub mod Sites
