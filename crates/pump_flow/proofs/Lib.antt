pub mod CurveLemmas
pub mod FlowLemmas
