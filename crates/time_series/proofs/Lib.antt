pub mod SeriesLemmas
pub mod SumLemmas
pub mod AmountLemmas
pub mod WalkLemmas
