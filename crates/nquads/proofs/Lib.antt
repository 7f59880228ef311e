pub mod AgainLemmas
pub mod CutLaw
pub mod DocumentLemmas
pub mod Examples
pub mod FaultLemmas
pub mod FeedLemmas
pub mod LineLemmas
pub mod WriteLemmas
