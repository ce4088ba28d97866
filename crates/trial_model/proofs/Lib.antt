pub mod LoopLemmas
pub mod SumLemmas
pub mod RangeLemmas
pub mod FlowLemmas
pub mod TrialLemmas
pub mod LeastLemmas
pub mod StepLemmas
