-- What a list of changes takes from a set and brings to it.
use Rattle.std.proofs.Common.{◌≡◌, ℕ, ◌+◌, Bool, true, false, not, ◌||◌, ◌&&◌, cond, List, [], ◌∷◌, ◌++◌, length, Option, Some, None, filter, map, refl, sym, ap, ◌∙◌, append_assoc, append-nil, arith}
use Rattle.std.specs.List.{filter_map, list_any, sum_by, AllByRecursion}
use Rattle.std.specs.List.Sorted.{IsStrictlySortedBy}
use Rattle.std.specs.Map.{lookup, keys_of}
use Rattle.std.specs.Map.Iter.{deref_pair}
use Rattle.std.specs.BTreeMap.{is_at}
use Rattle.std.specs.Option.{is_some}
use Rattle.std.specs.Ordering.{eq_by_cmp, is_eq}
use Rattle.std.specs.declared.cmp.Ordering.TheVariants.{Less, Equal, Greater}
use Rattle.std.proofs.lemmas.Cmp.{eq_by_cmp_equiv}
use Rattle.std.proofs.lemmas.List.{map-append}
use Rattle.std.proofs.lemmas.List.Elements.{filter_map-append}
use Rattle.std.proofs.lemmas.List.Folds.{list_any-append}
use Rattle.std.proofs.lemmas.List.Kept.{IsStrictlySortedBy-filter}
use Rattle.std.proofs.lemmas.List.Sums.{sum_by-cons}
use Rattle.std.proofs.lemmas.Map.{lookup-none}
use Rattle.std.proofs.lemmas.Map.Entries.{none_past_head}
use Rattle.std.proofs.lemmas.Map.Keys.{IsDistinct-from_sorted}
use Rattle.std.proofs.lemmas.Map.Made.{is_some-lookup}
use denote.Ref.{Bor}
use Rattle.rdf_term.specs.Statement.{Statement}
use Rattle.rdf_term.specs.Order.{quad_cmp}
use Rattle.rdf_term.specs.OrderLaws.{quad_total, quad_exact}
use Rattle.rdf_term.specs.Matching.{matches}
use Rattle.rdf_term.specs.Sets.{in_order}
use Rattle.rdf_term.specs.declared.pattern.Pattern.{Pattern}
use Rattle.rdf_term.proofs.SetLemmas.{has, same_set, has-sorted_set, sorted_set-sorted}
use Rattle.change_set.specs.declared.change.Change.{Change}
use Rattle.change_set.specs.declared.change.Change.TheVariants.{Add, Remove, RemoveMatching}
use Rattle.change_set.specs.declared.effect.Effect.{Effect}
use Rattle.change_set.specs.declared.effect.Effect.TheVariants.{Added, Removed, Untouched}
use Rattle.change_set.specs.declared.effect.Mark.{Mark}
use Rattle.change_set.specs.declared.effect.Mark.TheVariants as mark
use Rattle.change_set.specs.Content.{outcome, last_effect, is_added, is_removed, content, applied, named_quads}
use Rattle.change_set.specs.Kept.{marked, marked_entry, changes_of, kept_removed}
use Rattle.change_set.specs.Deltas.{removed_pattern, removed_patterns, removed_quads, removed, swapped}
use Rattle.change_set.proofs.Effects.{over, names, last_effect-append, last_effect-kept, effect_in, named_quads-kept, marked_alone, effect_where}
use Rattle.change_set.proofs.Contents.{has-filter, has-content, sorted-content, has-applied, sorted-applied, is_in_after}

-- the patterns of what is kept

patterns-patterns : (ps : List Pattern) → filter_map removed_pattern (map RemoveMatching ps) ≡ ps
patterns-patterns [] = refl
patterns-patterns (p ∷ ps) = ap (λ r. p ∷ r) (patterns-patterns ps)

patterns-marks : (es : List (Statement × Mark)) → filter_map removed_pattern (map marked_entry es) ≡ []
patterns-marks [] = refl
patterns-marks ((k, mark.Adds) ∷ es) = patterns-marks es
patterns-marks ((k, mark.Removes) ∷ es) = patterns-marks es

pub patterns-kept : (ps : List Pattern) (es : List (Statement × Mark)) → removed_patterns (changes_of ps es) ≡ ps
patterns-kept ps es =
    filter_map-append removed_pattern (map RemoveMatching ps) (map marked_entry es)
    ∙ (λ i. patterns-patterns ps i ++ patterns-marks es i)
    ∙ append-nil ps

-- the quads that what is kept removes

abbrev removes_at : Option Mark → Bool
removes_at None = false
removes_at (Some mark.Adds) = false
removes_at (Some mark.Removes) = true

all_kept_removed : (P : Statement → Type 0) (es : List (Statement × Mark)) → AllByRecursion P (keys_of es) → AllByRecursion P (kept_removed es)
all_kept_removed P [] a = tt
all_kept_removed P ((k, mark.Removes) ∷ es) a = (a.0, all_kept_removed P es a.1)
all_kept_removed P ((k, mark.Adds) ∷ es) a = all_kept_removed P es a.1

sorted_kept_removed : (es : List (Statement × Mark)) → IsStrictlySortedBy quad_cmp (keys_of es) → IsStrictlySortedBy quad_cmp (kept_removed es)
unfolding IsStrictlySortedBy
sorted_kept_removed [] s = tt
sorted_kept_removed ((k, mark.Removes) ∷ es) s = (all_kept_removed (λ q. quad_cmp k q ≡ Less) es s.0, sorted_kept_removed es s.1)
sorted_kept_removed ((k, mark.Adds) ∷ es) s = sorted_kept_removed es s.1

has_kept_removed : (es : List (Statement × Mark)) (q : Statement) → IsStrictlySortedBy quad_cmp (keys_of es) → has quad_cmp (kept_removed es) q ≡ removes_at (lookup (is_at (quad_cmp q)) es)
unfolding IsStrictlySortedBy
has_kept_removed [] q s = refl
has_kept_removed ((k, mark.Removes) ∷ es) q s = at (has_kept_removed es q s.1) (is_eq (quad_cmp q k))
  where
    at : has quad_cmp (kept_removed es) q ≡ removes_at (lookup (is_at (quad_cmp q)) es)
        → (b : Bool) → (b || has quad_cmp (kept_removed es) q) ≡ removes_at (cond b (Some mark.Removes) (lookup (is_at (quad_cmp q)) es))
    at rest true = refl
    at rest false = rest
has_kept_removed ((k, mark.Adds) ∷ es) q s = at (has_kept_removed es q s.1) (is_eq (quad_cmp q k)) refl
  where
    at : has quad_cmp (kept_removed es) q ≡ removes_at (lookup (is_at (quad_cmp q)) es)
        → (b : Bool) → is_eq (quad_cmp q k) ≡ b → has quad_cmp (kept_removed es) q ≡ removes_at (cond b (Some mark.Adds) (lookup (is_at (quad_cmp q)) es))
    at rest true h =
        let distinct = IsDistinct-from_sorted quad_cmp (keys_of ((k, mark.Adds) ∷ es)) s in
        rest ∙ ap removes_at (lookup-none (is_at (quad_cmp q)) es (none_past_head (eq_by_cmp_equiv quad_total) q (k, mark.Adds) es distinct h))
    at rest false h = rest

removed_effect : (ps : List Pattern) (o : Option Mark) (q : Statement) → removes_at o ≡ (is_some o && is_removed (effect_in ps o q))
removed_effect ps None q = refl
removed_effect ps (Some mark.Adds) q = refl
removed_effect ps (Some mark.Removes) q = refl

pub removals-kept : (ps : List Pattern) (es : List (Statement × Mark)) → IsStrictlySortedBy quad_cmp (keys_of es) → removed_quads (changes_of ps es) ≡ kept_removed es
removals-kept ps es s =
    ap (λ ks. filter (λ q. is_removed (last_effect (changes_of ps es) q)) ks) (named_quads-kept ps es s)
    ∙ same_set quad_total quad_exact (filter (λ q. is_removed (last_effect (changes_of ps es) q)) (keys_of es)) (kept_removed es)
    (IsStrictlySortedBy-filter quad_cmp (λ q. is_removed (last_effect (changes_of ps es) q)) (keys_of es) s) (sorted_kept_removed es s)
    (λ q. has-filter (λ q. is_removed (last_effect (changes_of ps es) q)) (keys_of es) q
    ∙ (λ i. sym (is_some-lookup (is_at (quad_cmp q)) es) i && is_removed (last_effect-kept ps es q s i))
    ∙ sym (has_kept_removed es q s ∙ removed_effect ps (lookup (is_at (quad_cmp q)) es) q))

-- why a quad is removed: it is named, or a pattern matches it

abbrev pub is_pattern_removed : List Change → Statement → Bool
is_pattern_removed changes q = list_any (λ p. matches p q) (removed_patterns changes)

removed_or : (e f : Effect) → is_removed (over e f) ≡ true → (a : Bool) → (is_removed e ≡ true → a ≡ true) → (is_removed f ≡ true → a ≡ true) → a ≡ true
removed_or Added f h a l r = cc
removed_or Removed f h a l r = l refl
removed_or Untouched f h a l r = r h

or_skip : (a b c : Bool) → (b || c) ≡ true → (b || (a || c)) ≡ true
or_skip a true c h = refl
or_skip true false c h = refl
or_skip false false c h = h

or_first : (a b c : Bool) → (b || c) ≡ true → ((a || b) || c) ≡ true
or_first true b c h = refl
or_first false b c h = h

if_added : (b c : Bool) (k : Statement) → is_removed (outcome (cond b (Some (Add k)) None)) ≡ true → c ≡ true
if_added true c k h = cc
if_added false c k h = cc

if_removed : (b c d : Bool) (k : Statement) → is_removed (outcome (cond b (Some (Remove k)) None)) ≡ true → ((b || c) || d) ≡ true
if_removed true c d k h = refl
if_removed false c d k h = cc

if_matching : (b c d : Bool) (p : Pattern) → is_removed (outcome (cond b (Some (RemoveMatching p)) None)) ≡ true → (c || (b || d)) ≡ true
if_matching true true d p h = refl
if_matching true false d p h = refl
if_matching false c d p h = cc

pub why_removed : (changes : List Change) (q : Statement) → is_removed (last_effect changes q) ≡ true → (names changes q || is_pattern_removed changes q) ≡ true
why_removed [] q h = cc
why_removed (Add k ∷ changes) q h =
    removed_or (last_effect changes q) (last_effect (Add k ∷ []) q) (ap is_removed (sym (last_effect-append (Add k ∷ []) changes q)) ∙ h) _
    (λ later. or_first (is_eq (quad_cmp q k)) (names changes q) (is_pattern_removed changes q) (why_removed changes q later))
    (λ here. if_added (is_eq (quad_cmp q k)) _ k here)
why_removed (Remove k ∷ changes) q h =
    removed_or (last_effect changes q) (last_effect (Remove k ∷ []) q) (ap is_removed (sym (last_effect-append (Remove k ∷ []) changes q)) ∙ h) _
    (λ later. or_first (is_eq (quad_cmp q k)) (names changes q) (is_pattern_removed changes q) (why_removed changes q later))
    (λ here. if_removed (is_eq (quad_cmp q k)) (names changes q) (is_pattern_removed changes q) k here)
why_removed (RemoveMatching p ∷ changes) q h =
    removed_or (last_effect changes q) (last_effect (RemoveMatching p ∷ []) q) (ap is_removed (sym (last_effect-append (RemoveMatching p ∷ []) changes q)) ∙ h) _
    (λ later. or_skip (matches p q) (names changes q) (is_pattern_removed changes q) (why_removed changes q later))
    (λ here. if_matching (matches p q) (names changes q) (is_pattern_removed changes q) p here)

-- what is brought to a set, and what is taken from it

abbrev pub outside : List Statement → List Statement → List Statement
outside base qs = filter (λ q. not (has quad_cmp base q)) qs

added_test : (e : Effect) (b : Bool) → (is_added e && not b) ≡ (is_in_after e b && not b)
added_test Added b = refl
added_test Removed b = refl
added_test Untouched true = refl
added_test Untouched false = refl

pub added-outside : (base : List Statement) (changes : List Change) → outside base (content changes) ≡ outside base (applied base changes)
added-outside base changes = same_set quad_total quad_exact (outside base (content changes)) (outside base (applied base changes))
    (IsStrictlySortedBy-filter quad_cmp (λ q. not (has quad_cmp base q)) (content changes) (sorted-content changes))
    (IsStrictlySortedBy-filter quad_cmp (λ q. not (has quad_cmp base q)) (applied base changes) (sorted-applied base changes))
    (λ q. has-filter (λ q. not (has quad_cmp base q)) (content changes) q
    ∙ ap (λ b. b && not (has quad_cmp base q)) (has-content changes q)
    ∙ added_test (last_effect changes q) (has quad_cmp base q)
    ∙ sym (has-filter (λ q. not (has quad_cmp base q)) (applied base changes) q ∙ ap (λ b. b && not (has quad_cmp base q)) (has-applied base changes q)))

abbrev pub is_lost : List Statement → List Change → Statement → Bool
is_lost base changes q = is_removed (last_effect changes q) && has quad_cmp base q

lost_test : (e : Effect) (b : Bool) → (is_removed e && b) ≡ (b && not (is_in_after e b))
lost_test Added true = refl
lost_test Added false = refl
lost_test Removed true = refl
lost_test Removed false = refl
lost_test Untouched true = refl
lost_test Untouched false = refl

-- those of some quads that are lost are all that are taken from the set, where each that is lost is among them
pub lost-outside : (base candidates : List Statement) (changes : List Change) → IsStrictlySortedBy quad_cmp base
    → ((q : Statement) → is_lost base changes q ≡ true → has quad_cmp candidates q ≡ true)
    → filter (is_lost base changes) (in_order candidates) ≡ outside (applied base changes) base
lost-outside base candidates changes s h = same_set quad_total quad_exact (filter (is_lost base changes) (in_order candidates)) (outside (applied base changes) base)
    (IsStrictlySortedBy-filter quad_cmp (is_lost base changes) (in_order candidates) (sorted_set-sorted quad_total quad_exact candidates))
    (IsStrictlySortedBy-filter quad_cmp (λ q. not (has quad_cmp (applied base changes) q)) base s)
    (λ q. has-filter (is_lost base changes) (in_order candidates) q
    ∙ ap (λ b. b && is_lost base changes q) (has-sorted_set quad_total quad_exact candidates q)
    ∙ implied (has quad_cmp candidates q) (is_lost base changes q) (h q)
    ∙ lost_test (last_effect changes q) (has quad_cmp base q)
    ∙ sym (has-filter (λ q. not (has quad_cmp (applied base changes) q)) base q ∙ ap (λ b. has quad_cmp base q && not b) (has-applied base changes q)))
  where
    implied : (a b : Bool) → (b ≡ true → a ≡ true) → (a && b) ≡ b
    implied true b h = refl
    implied false true h = h refl
    implied false false h = refl

-- from one set to another

abbrev added_where : Bool → Effect
added_where b = cond b Added Untouched

abbrev removed_where : Bool → Effect
removed_where b = cond b Removed Untouched

over_added : (a b : Bool) → over (added_where b) (added_where a) ≡ added_where (a || b)
over_added true true = refl
over_added true false = refl
over_added false true = refl
over_added false false = refl

over_removed : (a b : Bool) → over (removed_where b) (removed_where a) ≡ removed_where (a || b)
over_removed true true = refl
over_removed true false = refl
over_removed false true = refl
over_removed false false = refl

last_effect-adds : (qs : List Statement) (q : Statement) → last_effect (map Add qs) q ≡ added_where (has quad_cmp qs q)
last_effect-adds [] q = refl
last_effect-adds (k ∷ qs) q =
    last_effect-append (Add k ∷ []) (map Add qs) q
    ∙ (λ i. over (last_effect-adds qs q i) (marked_alone k mark.Adds q i))
    ∙ over_added (is_eq (quad_cmp q k)) (has quad_cmp qs q)

last_effect-removes : (qs : List Statement) (q : Statement) → last_effect (map Remove qs) q ≡ removed_where (has quad_cmp qs q)
last_effect-removes [] q = refl
last_effect-removes (k ∷ qs) q =
    last_effect-append (Remove k ∷ []) (map Remove qs) q
    ∙ (λ i. over (last_effect-removes qs q i) (marked_alone k mark.Removes q i))
    ∙ over_removed (is_eq (quad_cmp q k)) (has quad_cmp qs q)

swap_test : (b n : Bool) → is_in_after (over (added_where (n && not b)) (removed_where (b && not n))) b ≡ n
swap_test true true = refl
swap_test true false = refl
swap_test false true = refl
swap_test false false = refl

-- what one set lacks of another is removed, and what it has besides is added
pub applied-swapped : (base next : List Statement) → IsStrictlySortedBy quad_cmp next → applied base (swapped (outside base next) (outside next base)) ≡ next
applied-swapped base next s = same_set quad_total quad_exact (applied base (swapped (outside base next) (outside next base))) next
    (sorted-applied base (swapped (outside base next) (outside next base))) s
    (λ q. has-applied base (swapped (outside base next) (outside next base)) q
    ∙ ap (λ e. is_in_after e (has quad_cmp base q)) (last_effect-append (map Remove (outside next base)) (map Add (outside base next)) q
    ∙ (λ i. over (last_effect-adds (outside base next) q i) (last_effect-removes (outside next base) q i))
    ∙ (λ i. over (added_where (has-filter (λ q. not (has quad_cmp base q)) next q i)) (removed_where (has-filter (λ q. not (has quad_cmp next q)) base q i))))
    ∙ swap_test (has quad_cmp base q) (has quad_cmp next q))

-- sums over two sets

sum_by-split : {A : Type 0} (f : A → ℕ) (p : A → Bool) (xs : List A) → sum_by f xs ≡ sum_by f (filter p xs) + sum_by f (filter (λ x. not (p x)) xs)
sum_by-split f p [] = refl
sum_by-split f p (x ∷ xs) = sum_by-cons f x xs ∙ go (p x) (sum_by-split f p xs)
  where
    go : (b : Bool) → sum_by f xs ≡ sum_by f (filter p xs) + sum_by f (filter (λ x. not (p x)) xs)
        → f x + sum_by f xs ≡ sum_by f (cond b (x ∷ filter p xs) (filter p xs)) + sum_by f (cond (not b) (x ∷ filter (λ x. not (p x)) xs) (filter (λ x. not (p x)) xs))
    go true ih = omega (arith, ih, sum_by-cons f x (filter p xs))
    go false ih = omega (arith, ih, sum_by-cons f x (filter (λ x. not (p x)) xs))

and_swap : (a b : Bool) → (a && b) ≡ (b && a)
and_swap true true = refl
and_swap true false = refl
and_swap false true = refl
and_swap false false = refl

-- what two sets have in common counts in both
pub sum_by-swap : (f : Statement → ℕ) (base next : List Statement) → IsStrictlySortedBy quad_cmp base → IsStrictlySortedBy quad_cmp next
    → sum_by f next + sum_by f (outside next base) ≡ sum_by f base + sum_by f (outside base next)
sum_by-swap f base next s t =
    let common : filter (λ q. has quad_cmp next q) base ≡ filter (λ q. has quad_cmp base q) next =
    same_set quad_total quad_exact (filter (λ q. has quad_cmp next q) base) (filter (λ q. has quad_cmp base q) next)
    (IsStrictlySortedBy-filter quad_cmp (λ q. has quad_cmp next q) base s) (IsStrictlySortedBy-filter quad_cmp (λ q. has quad_cmp base q) next t)
    (λ q. has-filter (λ q. has quad_cmp next q) base q ∙ and_swap (has quad_cmp base q) (has quad_cmp next q) ∙ sym (has-filter (λ q. has quad_cmp base q) next q)) in
    let a = sum_by-split f (λ q. has quad_cmp next q) base in
    let b = sum_by-split f (λ q. has quad_cmp base q) next in
    let e = ap (sum_by f) common in
    omega (arith, a, b, e)

pub length-sum_by : {A : Type 0} (xs : List A) → length xs ≡ sum_by (λ x. 1) xs
length-sum_by [] = refl
length-sum_by (x ∷ xs) = omega (arith, length-sum_by xs, sum_by-cons (λ x. 1) x xs)

pub length-swap : (base next : List Statement) → IsStrictlySortedBy quad_cmp base → IsStrictlySortedBy quad_cmp next
    → length next + length (outside next base) ≡ length base + length (outside base next)
length-swap base next s t =
    let e = sum_by-swap (λ q. 1) base next s t in
    omega (arith, e, length-sum_by next, length-sum_by base, length-sum_by (outside next base), length-sum_by (outside base next))

pub removed-append : (es fs : List (Statement × Mark)) → kept_removed (es ++ fs) ≡ kept_removed es ++ kept_removed fs
removed-append es fs =
    ap (filter_map removed) (map-append marked_entry es fs) ∙ filter_map-append removed (map marked_entry es) (map marked_entry fs)
