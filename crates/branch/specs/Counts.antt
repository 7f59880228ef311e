-- What is counted of a branch, and which quads are looked at one by one.
use Rattle.std.specs.Prelude.{Bool, ◌&&◌, List, not, map, filter}
use Rattle.std.specs.Arc.{arc_value}
use Rattle.std.specs.List.{list_any}
use Rattle.rdf_term.specs.Statement.{Statement}
use Rattle.rdf_term.specs.Matching.{matches}
use Rattle.rdf_term.specs.declared.pattern.Pattern.{Pattern}
use Rattle.quad_index.specs.Contents.{is_in}
use Rattle.change_set.specs.declared.change.Change.{Change}
use Rattle.change_set.specs.Content.{named_quads}
use Rattle.change_set.specs.Deltas.{removed_patterns}
use Rattle.branch.specs.declared.counts.Counted.{Counted}
use Rattle.branch.specs.declared.counts.Counted.TheVariants as counted
use Rattle.branch.specs.declared.counts.Scope.{Scope}
use Rattle.branch.specs.Layers.{layered}

-- one of these patterns matches the quad
abbrev pub is_matched : List Pattern → Statement → Bool
is_matched patterns q = list_any (λ p. matches p q) patterns

-- a pattern that one of the lists of changes removes matches the quad
abbrev pub is_matched_in : List (List Change) → Statement → Bool
is_matched_in layers q = list_any (λ layer. is_matched (removed_patterns layer) q) layers

-- one of the lists of changes names the quad
abbrev pub is_named_in : List (List Change) → Statement → Bool
is_named_in layers q = list_any (λ layer. is_in q (named_quads layer)) layers

-- the quads of the base that no removed pattern matches, and the content
abbrev pub counted_of : Counted → List Statement → List (List Change) → List Statement
counted_of counted.Spared base layers = filter (λ q. not (is_matched_in layers q)) base
counted_of counted.Content base layers = layered base layers

-- the quads of which those are counted that match
abbrev pub counted_quads : Scope → List Statement
counted_quads it = counted_of it.counted it.base.now.quads (map arc_value it.layers.now)

-- the quad is counted, and none of the lists of changes names it
abbrev pub is_counted_anew : Scope → List (List Change) → Statement → Bool
is_counted_anew it below q = matches it.pattern.now q && (is_in q (counted_quads it) && not (is_named_in below q))
