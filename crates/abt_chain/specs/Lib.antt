pub mod Chains
pub mod Keeping
pub mod Links
pub mod Results
