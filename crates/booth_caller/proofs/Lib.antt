pub mod Calling
pub mod Deliveries
pub mod Totals
pub mod TwoCalls
