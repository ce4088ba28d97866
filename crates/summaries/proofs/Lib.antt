pub mod PeakLemmas
pub mod RowLemmas
pub mod FigureLemmas
pub mod LoadLemmas
pub mod RunoffLemmas
