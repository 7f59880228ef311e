pub mod Examples
pub mod SelectionLemmas
pub mod WriteLemmas
