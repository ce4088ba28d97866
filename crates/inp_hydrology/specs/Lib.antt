pub mod Gages
pub mod Subcatchments
pub mod Areas
pub mod Soil
pub mod Evaporation
pub mod Soundness
