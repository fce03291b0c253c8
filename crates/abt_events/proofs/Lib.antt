pub mod Doing
pub mod Events
pub mod Forgotten
pub mod RoundEnds
