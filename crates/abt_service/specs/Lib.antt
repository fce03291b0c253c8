pub mod Laws
pub mod Locks
pub mod Pools
