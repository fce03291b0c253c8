pub mod Crosses
pub mod Fitting
