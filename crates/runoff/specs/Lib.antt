pub mod Overland
pub mod Subareas
pub mod RunoffStep
