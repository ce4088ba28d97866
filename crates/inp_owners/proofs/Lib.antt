pub mod OwnerLemmas
pub mod PlacingLemmas
