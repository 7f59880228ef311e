-- What a fold makes of a base and of all changes above it.
use Rattle.std.proofs.Common.{◌≡◌, Bool, true, false, not, ◌||◌, ◌&&◌, List, [], ◌∷◌, ◌++◌, length, map, filter, append-nil, arith, refl, sym, ap, subst, ◌∙◌}
use Rattle.std.specs.List.Sorted.{IsStrictlySortedBy}
use Rattle.std.specs.Ordering.{eq_by_cmp}
use Rattle.std.proofs.lemmas.List.Folds.{list_any-append}
use Rattle.std.proofs.lemmas.List.{append_assoc}
use Rattle.std.proofs.lemmas.List.Concat.{flat_map-append}
use Rattle.rdf_term.specs.Statement.{Statement}
use Rattle.rdf_term.specs.Order.{quad_cmp}
use Rattle.rdf_term.specs.OrderLaws.{quad_total, quad_exact}
use Rattle.rdf_term.specs.Matching.{matches}
use Rattle.rdf_term.specs.Sets.{in_order}
use Rattle.rdf_term.proofs.SetLemmas.{has, same_set, sorted_set-same}
use Rattle.change_set.specs.declared.change.Change.{Change}
use Rattle.change_set.specs.declared.change.Change.TheVariants.{Add, Remove, RemoveMatching}
use Rattle.change_set.specs.declared.effect.Effect.{Effect}
use Rattle.change_set.specs.declared.effect.Effect.TheVariants.{Added, Removed, Untouched}
use Rattle.change_set.specs.Content.{applied, content, is_added, is_removed, last_effect, named_quads, SameChanges}
use Rattle.change_set.specs.Deltas.{removed_patterns, removed_quads}
use Rattle.change_set.proofs.Contents.{has-applied, has-content, has-filter, is_in_after, sorted-applied}
use Rattle.change_set.proofs.DeltaLemmas.{is_pattern_removed}
use Rattle.change_set.proofs.Effects.{last_effect-append, over, removal_alone, removed_where, SameChanges-append, SameChanges-refl, SameChanges-trans}
use Rattle.branch.specs.Deltas.{matched_by}
use Rattle.branch.specs.Layers.{changes_in, layered}
use Rattle.branch.proofs.DeltaLemmas.{among_candidates, has-matched_by}
use Rattle.branch.proofs.LayerLemmas.{has-layered, sorted-layered}

-- layers and one set with their changes make the same of a base
pub layered_is : (base : List Statement) (layers : List (List Change)) (set : List Change) → IsStrictlySortedBy quad_cmp base → SameChanges set (changes_in layers) → applied base set ≡ layered base layers
layered_is base layers set s same = same_set quad_total quad_exact (applied base set) (layered base layers) (sorted-applied base set) (sorted-layered base layers s)
    (λ q. has-applied base set q ∙ ap (λ e. is_in_after e (has quad_cmp base q)) (same.effects q) ∙ sym (has-layered base layers q))

-- one layer more on top of the merged ones
pub merged_more : (layers below : List (List Change)) (layer set next all : List Change) → layers ≡ below ++ layer ∷ [] → SameChanges next (layer ++ set)
    → SameChanges (changes_in layers ++ set) all → SameChanges (changes_in below ++ next) all
merged_more layers below layer set next all e same rest =
    SameChanges-trans (changes_in below ++ next) (changes_in layers ++ set) all
    (subst (SameChanges (changes_in below ++ next)) (sym (append_assoc (changes_in below) layer set) ∙ ap (λ changes. changes ++ set) (sym (flat below layer) ∙ ap changes_in (sym e)))
    (SameChanges-append (changes_in below) (changes_in below) next (layer ++ set) (SameChanges-refl (changes_in below)) same)) rest
  where
    flat : (below : List (List Change)) (layer : List Change) → changes_in (below ++ layer ∷ []) ≡ changes_in below ++ layer
    flat below layer = flat_map-append (λ layer. layer) below (layer ∷ []) ∙ ap (λ changes. changes_in below ++ changes) (append-nil layer)

pub merged_whole : {X : Type 0} (f : X → List Change) (left : List X) (set all : List Change) → length left ≡ 0 → SameChanges (changes_in (map f left) ++ set) all → SameChanges set all
merged_whole f [] set all e h = h
merged_whole f (x ∷ xs) set all e h = absurd (omega arith)

-- a quad that a removed pattern matches is touched

first_untouched : (e f : Effect) → over e f ≡ Untouched → e ≡ Untouched
first_untouched Added f h = h
first_untouched Removed f h = h
first_untouched Untouched f h = refl

second_untouched : (e f : Effect) → over e f ≡ Untouched → f ≡ Untouched
second_untouched Added f h = cc
second_untouched Removed f h = cc
second_untouched Untouched f h = h

unmatched : (b : Bool) → removed_where b ≡ Untouched → b ≡ false
unmatched true h = cc
unmatched false h = refl

pub pattern_untouched : (changes : List Change) (q : Statement) → last_effect changes q ≡ Untouched → is_pattern_removed changes q ≡ false
pattern_untouched [] q h = refl
pattern_untouched (Add k ∷ changes) q h =
    pattern_untouched changes q (first_untouched (last_effect changes q) (last_effect (Add k ∷ []) q) (sym (last_effect-append (Add k ∷ []) changes q) ∙ h))
pattern_untouched (Remove k ∷ changes) q h =
    pattern_untouched changes q (first_untouched (last_effect changes q) (last_effect (Remove k ∷ []) q) (sym (last_effect-append (Remove k ∷ []) changes q) ∙ h))
pattern_untouched (RemoveMatching p ∷ changes) q h =
    let both = sym (last_effect-append (RemoveMatching p ∷ []) changes q) ∙ h in
    let here = unmatched (matches p q) (sym (removal_alone p q) ∙ second_untouched (last_effect changes q) (last_effect (RemoveMatching p ∷ []) q) both) in
    let later = pattern_untouched changes q (first_untouched (last_effect changes q) (last_effect (RemoveMatching p ∷ []) q) both) in
    λ i. here i || later i

-- whether a quad is among those that changes may remove
has_candidates : (base : List Statement) (changes : List Change) (q : Statement)
    → has quad_cmp (removed_quads changes ++ matched_by base (removed_patterns changes)) q
    ≡ ((has quad_cmp (named_quads changes) q && is_removed (last_effect changes q)) || (is_pattern_removed changes q && has quad_cmp base q))
has_candidates base changes q = list_any-append (eq_by_cmp quad_cmp q) (removed_quads changes) (matched_by base (removed_patterns changes))
    ∙ (λ i. has-filter (λ q. is_removed (last_effect changes q)) (named_quads changes) q i || has-matched_by base (removed_patterns changes) q i)

same_left : (e : Effect) (b c n p : Bool) → c ≡ ((n && is_removed e) || (p && b)) → (e ≡ Untouched → p ≡ false) → ((is_removed e && b) ≡ true → c ≡ true)
    → ((b && not c) || is_added e) ≡ ((b && not (is_removed e)) || is_added e)
same_left Added true true n p h u l = refl
same_left Added true false n p h u l = refl
same_left Added false c n p h u l = refl
same_left Removed true true n p h u l = refl
same_left Removed true false n p h u l = let e : false ≡ true = l refl in cc
same_left Removed false c n p h u l = refl
same_left Untouched false c n p h u l = refl
same_left Untouched true false n p h u l = refl
same_left Untouched true true true p h u l = at p (u refl) h
  where
    at : (p : Bool) → p ≡ false → true ≡ ((true && false) || (p && true)) → ((true && not true) || false) ≡ ((true && not false) || false)
    at true e h = cc
    at false e h = cc
same_left Untouched true true false p h u l = at p (u refl) h
  where
    at : (p : Bool) → p ≡ false → true ≡ ((false && false) || (p && true)) → ((true && not true) || false) ≡ ((true && not false) || false)
    at true e h = cc
    at false e h = cc

-- a base without all that changes may remove, and with their content, is the base after them
pub folded : (base : List Statement) (changes : List Change)
    → in_order (filter (λ q. not (has quad_cmp (removed_quads changes ++ matched_by base (removed_patterns changes)) q)) base ++ content changes) ≡ applied base changes
folded base changes = sorted_set-same quad_total quad_exact
    (filter (λ q. not (has quad_cmp (removed_quads changes ++ matched_by base (removed_patterns changes)) q)) base ++ content changes)
    (filter (λ q. not (is_removed (last_effect changes q))) base ++ content changes)
    (λ q. list_any-append (eq_by_cmp quad_cmp q) (filter (λ q. not (has quad_cmp (removed_quads changes ++ matched_by base (removed_patterns changes)) q)) base) (content changes)
    ∙ (λ i. has-filter (λ q. not (has quad_cmp (removed_quads changes ++ matched_by base (removed_patterns changes)) q)) base q i || has-content changes q i)
    ∙ same_left (last_effect changes q) (has quad_cmp base q) (has quad_cmp (removed_quads changes ++ matched_by base (removed_patterns changes)) q) (has quad_cmp (named_quads changes) q) (is_pattern_removed changes q)
    (has_candidates base changes q) (pattern_untouched changes q) (among_candidates base changes q)
    ∙ sym (list_any-append (eq_by_cmp quad_cmp q) (filter (λ q. not (is_removed (last_effect changes q))) base) (content changes)
    ∙ (λ i. has-filter (λ q. not (is_removed (last_effect changes q))) base q i || has-content changes q i)))
