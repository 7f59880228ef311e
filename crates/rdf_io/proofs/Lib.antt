pub mod LinkLemmas
pub mod SendLemmas
