pub mod ValueLemmas
pub mod ItemLemmas
pub mod FormLemmas
pub mod PlaceLemmas
