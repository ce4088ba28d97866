pub mod PageLemmas
pub mod StandLemmas
pub mod Chain
