pub mod ChosenLemmas
pub mod RangeLemmas
pub mod LineLemmas
