pub mod SearchLemmas
pub mod ReadingLemmas
