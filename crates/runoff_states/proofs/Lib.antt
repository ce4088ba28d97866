pub mod BalanceLemmas
pub mod AccountLemmas
pub mod RunLemmas
pub mod NodeLemmas
pub mod TimeLemmas
pub mod OpenLemmas
