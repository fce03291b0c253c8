pub mod HallLaws
pub mod HallLocks
