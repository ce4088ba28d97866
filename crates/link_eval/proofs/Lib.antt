pub mod ListLemmas
pub mod SharedLemmas
pub mod BuildLemmas
pub mod ValueLemmas
pub mod OpenAreaLemmas
