pub mod PlaceLemmas
pub mod ChainLemmas
pub mod FaultlessLemmas
pub mod HoldingLemmas
