-- What changes bring to a content and take from it, and how its size changes.
use Rattle.std.proofs.Common.{◌≡◌, ℕ, ◌+◌, Bool, true, false, not, ◌||◌, ◌&&◌, List, [], ◌∷◌, ◌++◌, length, filter, refl, sym, ap, ◌∙◌}
use Rattle.std.specs.List.{list_any, sum_by}
use Rattle.std.specs.List.Sorted.{IsStrictlySortedBy}
use Rattle.std.specs.Ordering.{eq_by_cmp}
use Rattle.std.proofs.lemmas.List.Folds.{list_any-append}
use Rattle.rdf_term.specs.Statement.{Statement}
use Rattle.rdf_term.specs.Order.{quad_cmp}
use Rattle.rdf_term.specs.OrderLaws.{quad_total, quad_exact}
use Rattle.rdf_term.specs.Matching.{matches}
use Rattle.rdf_term.specs.Sets.{in_order}
use Rattle.rdf_term.specs.declared.pattern.Pattern.{Pattern}
use Rattle.rdf_term.proofs.SetLemmas.{has, has-sorted_set}
use Rattle.change_set.specs.declared.change.Change.{Change}
use Rattle.change_set.specs.Content.{last_effect, is_removed, content, applied, named_quads, SameChanges}
use Rattle.change_set.specs.Deltas.{removed_patterns, removed_quads, swapped}
use Rattle.change_set.proofs.Contents.{has-filter, applied-same}
use Rattle.change_set.proofs.DeltaLemmas.{why_removed, is_pattern_removed, is_lost, lost-outside, added-outside, applied-swapped, sum_by-swap, length-swap}
use Rattle.branch.specs.declared.deltas.Delta.{Delta}
use Rattle.branch.specs.Deltas.{IsDelta, matched_by}

or_assoc : (a b c : Bool) → ((a || b) || c) ≡ (a || (b || c))
or_assoc true b c = refl
or_assoc false b c = refl

distributed : (a b c : Bool) → ((c && a) || (b && c)) ≡ ((a || b) && c)
distributed true true true = refl
distributed true true false = refl
distributed true false true = refl
distributed true false false = refl
distributed false true true = refl
distributed false true false = refl
distributed false false true = refl
distributed false false false = refl

and_false : (a : Bool) → false ≡ (false && a)
and_false a = refl

pub has-matched_by : (quads : List Statement) (ps : List Pattern) (q : Statement) → has quad_cmp (matched_by quads ps) q ≡ (list_any (λ p. matches p q) ps && has quad_cmp quads q)
has-matched_by quads [] q = refl
has-matched_by quads (p ∷ ps) q =
    list_any-append (eq_by_cmp quad_cmp q) (filter (matches p) quads) (matched_by quads ps)
    ∙ (λ i. has-filter (matches p) quads q i || has-matched_by quads ps q i)
    ∙ distributed (matches p q) (list_any (λ p. matches p q) ps) (has quad_cmp quads q)

-- a quad that is lost is among the candidates
pub among_candidates : (base : List Statement) (changes : List Change) (q : Statement) → is_lost base changes q ≡ true
    → has quad_cmp (removed_quads changes ++ matched_by base (removed_patterns changes)) q ≡ true
among_candidates base changes q h =
    list_any-append (eq_by_cmp quad_cmp q) (removed_quads changes) (matched_by base (removed_patterns changes))
    ∙ (λ i. has-filter (λ q. is_removed (last_effect changes q)) (named_quads changes) q i || has-matched_by base (removed_patterns changes) q i)
    ∙ go (has quad_cmp (named_quads changes) q) (is_removed (last_effect changes q)) (is_pattern_removed changes q) (has quad_cmp base q) h
    (λ r. ap (λ n. n || is_pattern_removed changes q) (has-sorted_set quad_total quad_exact _ q) ∙ why_removed changes q r)
  where
    go : (n r p b : Bool) → (r && b) ≡ true → (r ≡ true → (n || p) ≡ true) → ((n && r) || (p && b)) ≡ true
    go true true p b h k = refl
    go false true true true h k = refl
    go false true true false h k = cc
    go false true false b h k = let e : false ≡ true = k refl in cc
    go n false p b h k = cc

-- the code's delta is the delta
pub added_is : (base : List Statement) (changes : List Change) → filter (λ q. not (has quad_cmp base q)) (content changes) ≡ filter (λ q. not (has quad_cmp base q)) (applied base changes)
added_is base changes = added-outside base changes

pub removed_is : (base : List Statement) (changes : List Change) → IsStrictlySortedBy quad_cmp base
    → filter (is_lost base changes) (in_order (removed_quads changes ++ matched_by base (removed_patterns changes))) ≡ filter (λ q. not (has quad_cmp (applied base changes) q)) base
removed_is base changes s = lost-outside base (removed_quads changes ++ matched_by base (removed_patterns changes)) changes s (among_candidates base changes)

-- what a delta's changes make of the older content
pub applied-delta : (older newer : List Statement) (it : Delta) (set : List Change) → IsStrictlySortedBy quad_cmp newer → IsDelta older newer it
    → SameChanges set (swapped it.added it.removed) → applied older set ≡ newer
applied-delta older newer it set s d same =
    applied-same older set (swapped it.added it.removed) same
    ∙ (λ i. applied older (swapped (d.added i) (d.removed i)))
    ∙ applied-swapped older newer s

-- sizes before and after
pub sum_by-delta : (f : Statement → ℕ) (older newer : List Statement) (it : Delta) → IsStrictlySortedBy quad_cmp older → IsStrictlySortedBy quad_cmp newer → IsDelta older newer it
    → sum_by f newer + sum_by f it.removed ≡ sum_by f older + sum_by f it.added
sum_by-delta f older newer it s t d =
    ap (λ qs. sum_by f newer + sum_by f qs) d.removed ∙ sum_by-swap f older newer s t ∙ ap (λ qs. sum_by f older + sum_by f qs) (sym d.added)

pub length-delta : (older newer : List Statement) (it : Delta) → IsStrictlySortedBy quad_cmp older → IsStrictlySortedBy quad_cmp newer → IsDelta older newer it
    → length newer + length it.removed ≡ length older + length it.added
length-delta older newer it s t d =
    ap (λ (qs : List Statement). length newer + length qs) d.removed ∙ length-swap older newer s t ∙ ap (λ (qs : List Statement). length older + length qs) (sym d.added)
