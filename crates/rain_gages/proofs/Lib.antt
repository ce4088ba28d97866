pub mod RainLemmas
pub mod RateLemmas
