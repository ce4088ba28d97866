pub mod FlowLemmas
pub mod StillLemmas
pub mod SubmergenceLemmas
