mod Examples
pub mod Fine
pub mod Joined
pub mod Known
pub mod Lexed
pub mod NameLemmas
pub mod Numbers
pub mod ParseLaws
pub mod PrintLaws
pub mod PutLemmas
pub mod Scalars
pub mod SlotLemmas
pub mod Spelled
pub mod States
pub mod Trees
pub mod Truths
pub mod WordLemmas
