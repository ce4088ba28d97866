pub mod Sums
pub mod Account
pub mod Parts
pub mod StepOf
pub mod Run
