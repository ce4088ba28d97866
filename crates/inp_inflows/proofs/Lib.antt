pub mod CountedLemmas
pub mod SoundLemmas
