use Rattle.std.proofs.Common.{◌≡◌, ◌++◌}
use Rattle.std.specs.List.{flat_map}
use Rattle.rdf_term.specs.Canonical.{escaped}
use Rattle.query_print.proofs.term.put_escaped.Given as goal

abbrev pub invariant-loop-character : goal.invariant-loop-character
invariant-loop-character l = l.out ≡ l.fn.out ++ flat_map escaped l.yielded
