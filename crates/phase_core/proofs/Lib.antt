pub mod AfterLemmas
pub mod ColumnLemmas
pub mod LeadLemmas
pub mod OpeningLemmas
pub mod ReadyLemmas
pub mod SetLemmas
