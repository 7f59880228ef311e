pub mod Counts
mod Examples
pub mod Forth
pub mod Lasts
pub mod MeaningLaws
pub mod NameLaws
pub mod OneFault
pub mod ParseLaws
pub mod ReadingLaws
pub mod RunLaws
pub mod Schemes
pub mod SpellLemmas
pub mod Steps
pub mod Tails
pub mod Texts
