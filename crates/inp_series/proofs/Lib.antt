pub mod SameLemmas
pub mod PushLemmas
pub mod PairLemmas
pub mod TimeLemmas
pub mod GrowLemmas
pub mod MeaningLemmas
pub mod PatternLemmas
pub mod LoopLemmas
