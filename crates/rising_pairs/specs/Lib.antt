pub mod FirstAbove
pub mod Readings
