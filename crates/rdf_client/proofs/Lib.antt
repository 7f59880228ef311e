pub mod AnswerLemmas
pub mod HearLemmas
pub mod HostLemmas
pub mod OneLemmas
pub mod RunLemmas
pub mod ServedLemmas
pub mod SpellableLemmas
pub mod TurnLemmas
