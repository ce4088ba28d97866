pub mod MemoryLemmas
pub mod OutputLemmas
