pub mod ClockLemmas
pub mod DateLemmas
pub mod DurationLemmas
pub mod FieldLemmas
pub mod UniqueLemmas
pub mod UnitLemmas
