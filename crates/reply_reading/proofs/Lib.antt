pub mod AgainLemmas
pub mod CountLemmas
mod Examples
pub mod ListLemmas
pub mod LocationLemmas
pub mod OneLemmas
pub mod ReadingLemmas
