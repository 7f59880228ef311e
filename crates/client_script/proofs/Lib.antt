pub mod Examples
pub mod InputLemmas
pub mod LineLemmas
pub mod ScriptLemmas
pub mod StreamLemmas
pub mod TxnLemmas
pub mod ValidLemmas
