pub mod GreatestLemmas
pub mod HeightLemmas
pub mod EndsLemmas
pub mod CutLemmas
pub mod FaultLemmas
pub mod LawLemmas
