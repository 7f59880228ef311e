use Rattle.std.proofs.Common.{◌≡◌, [], take, fold}
use Rattle.std.specs.List.{flat_map}
use Rattle.query_model.specs.Unknowns.{standing_in, with_unknown}
use Rattle.bgp_eval.proofs.unknowns.unknowns_of.Given as goal

abbrev pub invariant-loop-pattern : goal.invariant-loop-pattern
invariant-loop-pattern l = l.names ≡ fold with_unknown [] (flat_map standing_in (take l.pattern-index l.patterns))
