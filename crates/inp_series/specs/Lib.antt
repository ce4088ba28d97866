pub mod Pairs
pub mod Axes
pub mod SeriesLines
pub mod CurveLines
pub mod PatternLines
pub mod Meaning
pub mod Laws
