mod Examples
pub mod LawLemmas
pub mod RunLemmas
pub mod WordLemmas
