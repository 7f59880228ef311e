use Rattle.std.proofs.Common.{◌≡◌, filter, take}
use Rattle.rdf_term.specs.Matching.{matches}
use Rattle.change_set.specs.Kept.{kept_added}
use Rattle.change_set.proofs.kept.added_in.Given as goal

abbrev pub invariant-loop-entry : goal.invariant-loop-entry
invariant-loop-entry l = l.found ≡ filter (matches l.pattern) (kept_added (take l.entry-index l.named))
