pub mod QuantityLemmas
pub mod NodesLemmas
pub mod LinksLemmas
