pub mod SeriesValues
pub mod Patterns
pub mod Inflows
pub mod LateralFlow
pub mod Stages
pub mod Walk
