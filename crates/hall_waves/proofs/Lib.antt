pub mod Crosses
pub mod HallClocks
pub mod HallClosed
pub mod HallEnds
