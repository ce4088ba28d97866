pub mod DrawLemmas
