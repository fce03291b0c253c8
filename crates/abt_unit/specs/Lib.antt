pub mod Fits
pub mod Local
pub mod Units
