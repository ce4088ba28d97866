pub mod CurveNumber
pub mod Depths
pub mod Horton
pub mod Infiltration
