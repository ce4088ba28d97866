pub mod TitleLemmas
pub mod NamedLemmas
pub mod PlacedLemmas
pub mod FaultLemmas
pub mod Given
pub mod MeaningLemmas
pub mod ReadLemmas
pub mod SoundLemmas
