pub mod Draws
pub mod Reaches
pub mod SampleText
