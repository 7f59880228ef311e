mod Examples
pub mod FitLemmas
pub mod PutLemmas
pub mod RowLemmas
pub mod ShortLemmas
pub mod TextLemmas
