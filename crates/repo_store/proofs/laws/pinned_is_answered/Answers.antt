use Rattle.repo_store.proofs.PinnedLemmas.{pinned_is_answered}
use Rattle.repo_store.proofs.laws.pinned_is_answered.Goals as goal

pub returns : goal.returns
returns c = pinned_is_answered
