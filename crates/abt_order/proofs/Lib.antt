pub mod ChosenPlaces
pub mod ClassLemmas
pub mod Ordered
pub mod PoolNumbers
pub mod Stealing
pub mod RoundOrders
pub mod FixedOrders
