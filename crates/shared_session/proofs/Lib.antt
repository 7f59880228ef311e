pub mod HouseLemmas
pub mod RowLemmas
