pub mod Asked
pub mod Call
pub mod Lives
pub mod Status
