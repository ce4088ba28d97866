pub mod OverlandLemmas
pub mod VolumeLemmas
