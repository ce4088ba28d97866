pub mod RunoffStates
pub mod RunoffTimes
pub mod RunoffAccount
