use Rattle.std.proofs.Common.{◌≡◌, ◌+◌, ◌≤◌, ◌++◌, length, map, take}
use Rattle.std.specs.List.{flat_map}
use Rattle.bgp_eval.specs.Kept.{kept}
use Rattle.bgp_eval.specs.Ways.{next_rows, ways}
use Rattle.bgp_eval.proofs.search.+search.Given as goal

abbrev pub decreases-search : goal.decreases-search
decreases-search g l = length l.steps.now

-- what was found and what is left make what was wanted, and the row is what it was
abbrev pub invariant-loop-quad : goal.invariant-loop-quad
invariant-loop-quad g l = record {
  room : length l.found ≤ l.wanted.most + 1;
  same : l.row.items ≡ l.fn.row.items;
  whole : take (l.wanted.most + 1) (l.found ++ map (kept l.wanted.kept) (flat_map (ways (map g.V.Scan.content l.views) l.rest) (next_rows l.fn.row.items l.step l.left)))
      ≡ take (l.wanted.most + 1) (l.fn.found ++ map (kept l.wanted.kept) (flat_map (ways (map g.V.Scan.content l.views) l.rest) (next_rows l.fn.row.items l.step l.initial.left)));
}

abbrev pub decreases-loop-quad : goal.decreases-loop-quad
decreases-loop-quad g l = length l.left
