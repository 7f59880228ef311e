-- The least quad of kept deltas that an observed pattern matches, with the first such pattern.
use Rattle.std.specs.Prelude.{ℕ, Bool, List, Option, Some, None, filter, find, slice_get, nat_lt}
use Rattle.std.specs.Option.{option_map}
use Rattle.std.specs.List.{list_any, flat_map}
use Rattle.std.specs.Ordering.{match_ordering}
use Rattle.std.specs.declared.cmp.Ordering.{Ordering}
use Rattle.rdf_term.specs.declared.pattern.Pattern.{Pattern}
use Rattle.rdf_term.specs.Statement.{Statement}
use Rattle.rdf_term.specs.Matching.{matches}
use Rattle.rdf_term.specs.Sets.{in_order}
use Rattle.change_set.specs.Content.{named_quads}
use Rattle.conflict.specs.Logs.{LoggedDelta}

-- one of the patterns matches the quad
abbrev pub one_matches : List Pattern → Statement → Bool
one_matches patterns q = list_any (λ p. matches p q) patterns

-- the first of the quads in their order
abbrev pub least : List Statement → Option Statement
least quads = slice_get (in_order quads) 0

-- a quad with the first of the patterns that matches it
abbrev pub with_pattern : List Pattern → Option Statement → Option (Pattern × Statement)
with_pattern patterns None = None
with_pattern patterns (Some q) = option_map (λ p. (p, q)) (find (λ p. matches p q) patterns)

-- the quads that the deltas above a place name
abbrev pub quads_above : ℕ → List LoggedDelta → List Statement
quads_above from kept = flat_map (λ it. named_quads it.changes) (filter (λ it. nat_lt from it.place) kept)

-- the least of the quads that one of the patterns matches
abbrev pub least_observed : List Pattern → List Statement → Option Statement
least_observed patterns quads = least (filter (one_matches patterns) quads)

-- the least quad that a delta above a place names and one of the patterns matches, with the first such pattern
abbrev pub clash_above : ℕ → List LoggedDelta → List Pattern → Option (Pattern × Statement)
clash_above from kept patterns = with_pattern patterns (least_observed patterns (quads_above from kept))

-- the lesser of two items in the order cmp, the first where they tie, or the one that is there
abbrev pub lesser : {K : Type 0} → (K → K → Ordering) → Option K → Option K → Option K
lesser cmp None other = other
lesser cmp (Some x) None = Some x
lesser cmp (Some x) (Some y) = match_ordering (cmp y x) (Some y) (Some x) (Some x)
