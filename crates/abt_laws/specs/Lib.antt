pub mod Footprint
pub mod Laws
pub mod Measure
pub mod TwoStreams
