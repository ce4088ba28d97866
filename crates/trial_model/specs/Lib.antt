pub mod Start
pub mod Fits
pub mod Flow
pub mod Parts
pub mod Trial
pub mod RoutingStep
