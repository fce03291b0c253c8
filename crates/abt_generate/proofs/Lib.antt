pub mod Lists
pub mod GeneratedOps
pub mod GeneratedParts
