pub mod Chars
pub mod DistinctLemmas
pub mod Examples
pub mod Same
pub mod SetLemmas
pub mod SortLemmas
pub mod TextLemmas
pub mod WritingLemmas
