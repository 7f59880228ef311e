pub mod Examples
pub mod ListLemmas
pub mod PinnedLemmas
pub mod SeatLemmas
pub mod StoreLemmas
