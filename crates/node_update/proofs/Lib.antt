pub mod EndsLemmas
pub mod BuildLemmas
pub mod GainLemmas
pub mod DepthLemmas
pub mod UpdateLemmas
