pub mod AreaLemmas
pub mod GridLemmas
pub mod PowerLemmas
pub mod RowLemmas
pub mod StripLemmas
pub mod TableLemmas
