pub mod Conduits
pub mod Geometry
pub mod Momentum
pub mod Limits
pub mod TravelTime
pub mod ConduitShare
