pub mod TotalLemmas
pub mod LawLemmas
pub mod NodeLemmas
pub mod BalanceLemmas
pub mod LinkLemmas
pub mod StepLemmas
