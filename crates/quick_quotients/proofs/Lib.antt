mod LineLemmas
mod RootLemmas
