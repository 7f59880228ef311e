use Rattle.std.proofs.Common.{◌≡◌, ◌++◌, map}
use Rattle.std.specs.List.{flat_map}
use Rattle.api_parts.specs.Writes.{placed, change_by}
use Rattle.api_parts.proofs.writes.changes_of.Given as goal

abbrev pub invariant-loop-quad : goal.invariant-loop-quad
invariant-loop-quad l =
    l.changes ++ map (change_by l.kept) (flat_map (placed l.contexts) l.quad-iterator.rest.items) ≡ map (change_by l.kept) (flat_map (placed l.contexts) l.fn.quads)
