pub mod PlaceLemmas
pub mod DecisiveLemmas
pub mod AnswerLemmas
