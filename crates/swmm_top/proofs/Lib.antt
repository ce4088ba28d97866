mod CompleteLemmas
mod HotLemmas
mod InputLemmas
mod LeavesLemmas
mod OutcomeLemmas
mod TopLemmas
