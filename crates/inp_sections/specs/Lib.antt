pub mod CrossSections
pub mod Losses
pub mod Soundness
