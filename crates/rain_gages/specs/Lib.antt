pub mod Rain
pub mod Intensity
