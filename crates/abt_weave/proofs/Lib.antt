pub mod Booths
pub mod Seating
