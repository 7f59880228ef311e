pub mod ListLemmas
pub mod PassLemmas
pub mod PassLists
pub mod SendLemmas
pub mod SoundLemmas
