pub mod Clocks
pub mod Judges
pub mod Pieces
pub mod Verdicts
