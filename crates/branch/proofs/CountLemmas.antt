-- How many quads of a set above a base match.
use Rattle.std.proofs.Common.{◌≡◌, ℕ, ◌+◌, ◌-◌, ◌^◌, ◌<◌, ◌≤◌, ◌⊎◌, inl, inr, Bool, true, false, not, ◌||◌, ◌&&◌, cond, List, [], ◌∷◌, ◌++◌, length, filter, map, min, refl, sym, ap, ◌∙◌, arith}
use Rattle.std.specs.List.{list_any, count_by, flat_map, filter_map}
use Rattle.std.specs.List.Sorted.{IsStrictlySortedBy}
use Rattle.std.specs.Map.{keys_of}
use Rattle.std.specs.Ordering.{is_eq}
use Rattle.std.proofs.Math.Nat.{min-eq_left, min-eq_right, min-le_left}
use Rattle.std.proofs.lemmas.Bool.{cases_lt}
use Rattle.std.proofs.lemmas.List.Folds.{list_any-append}
use Rattle.std.proofs.lemmas.List.Sums.{length-filter, count_by-le-length, sum_by-cons}
use Rattle.std.proofs.lemmas.List.Kept.{IsStrictlySortedBy-filter}
use Rattle.rdf_term.specs.Statement.{Statement}
use Rattle.rdf_term.specs.Order.{quad_cmp}
use Rattle.rdf_term.specs.OrderLaws.{quad_total, quad_exact}
use Rattle.rdf_term.specs.Matching.{matches}
use Rattle.rdf_term.specs.declared.pattern.Pattern.{Pattern}
use Rattle.rdf_term.proofs.SetLemmas.{has, same_set, has-sorted_set, sorted_set-sorted}
use Rattle.change_set.specs.declared.change.Change.{Change}
use Rattle.change_set.specs.declared.change.Change.TheVariants.{Add, Remove, RemoveMatching}
use Rattle.change_set.specs.declared.effect.Mark.{Mark}
use Rattle.change_set.specs.declared.effect.Mark.TheVariants as mark
use Rattle.change_set.specs.Content.{last_effect, named, named_quads}
use Rattle.change_set.specs.Deltas.{removed_patterns}
use Rattle.change_set.proofs.Effects.{over, names, removed_where, effect_where, last_effect-append, marked_alone, removal_alone}
use Rattle.change_set.proofs.Contents.{has-filter, is_in_after}
use Rattle.branch.specs.Layers.{layered, effect_above}
use Rattle.branch.specs.Counts.{is_matched, is_matched_in, is_named_in, counted_of}
use Rattle.branch.specs.declared.counts.Counted.TheVariants.{Spared}
use Rattle.branch.proofs.LayerLemmas.{everything, filter-everything, has-layered, sorted-layered}

-- ---- tests of lists

pub any_last : {X : Type 0} (f : X → Bool) (below : List X) (x : X) → (f x || list_any f below) ≡ list_any f (below ++ x ∷ [])
any_last f below x = swap (f x) (list_any f below) ∙ sym (list_any-append f below (x ∷ []))
  where
    swap : (a b : Bool) → (a || b) ≡ (b || (a || false))
    swap true true = refl
    swap true false = refl
    swap false true = refl
    swap false false = refl

count-cons : {X : Type 0} (f : X → Bool) (x : X) (xs : List X) → count_by f (x ∷ xs) ≡ cond (f x) 1 0 + count_by f xs
count-cons f x xs = sum_by-cons (λ x. cond (f x) 1 0) x xs

-- a test that is one of two others, which exclude each other
pub count-apart : {X : Type 0} (f g h : X → Bool) (xs : List X) → ((x : X) → (f x ≡ (g x || h x)) × ((g x && h x) ≡ false)) → count_by g xs + count_by h xs ≡ count_by f xs
count-apart f g h [] e = refl
count-apart f g h (x ∷ xs) e = (λ i. count-cons g x xs i + count-cons h x xs i) ∙ at (f x) (g x) (h x) (e x).0 (e x).1 (count-apart f g h xs e) ∙ sym (count-cons f x xs)
  where
    at : (a b c : Bool) → a ≡ (b || c) → (b && c) ≡ false → count_by g xs + count_by h xs ≡ count_by f xs
        → (cond b 1 0 + count_by g xs) + (cond c 1 0 + count_by h xs) ≡ cond a 1 0 + count_by f xs
    at true true true e d r = cc
    at true true false e d r = omega (arith, r)
    at true false true e d r = omega (arith, r)
    at true false false e d r = cc
    at false true c e d r = cc
    at false false true e d r = cc
    at false false false e d r = omega (arith, r)

pub count-none : {X : Type 0} (f : X → Bool) (xs : List X) → ((x : X) → f x ≡ false) → count_by f xs ≡ 0
count-none f [] e = refl
count-none f (x ∷ xs) e = count-cons f x xs ∙ (λ i. cond (e x i) 1 0 + count-none f xs e i)

-- ---- the quads that no change names

over_removed : (a b : Bool) → over (removed_where b) (removed_where a) ≡ removed_where (a || b)
over_removed true true = refl
over_removed true false = refl
over_removed false true = refl
over_removed false false = refl

over_unmarked : (m b : Bool) (k : Mark) → b ≡ false → over (removed_where m) (effect_where b k) ≡ removed_where m
over_unmarked true true k e = cc
over_unmarked true false k e = refl
over_unmarked false true k e = cc
over_unmarked false false k e = refl

left_false : (a b : Bool) → (a || b) ≡ false → a ≡ false
left_false true b h = cc
left_false false b h = refl

right_false : (a b : Bool) → (a || b) ≡ false → b ≡ false
right_false true b h = cc
right_false false b h = h

unnamed : (changes : List Change) (q : Statement) → names changes q ≡ false → last_effect changes q ≡ removed_where (is_matched (removed_patterns changes) q)
unnamed [] q h = refl
unnamed (Add k ∷ changes) q h =
    last_effect-append (Add k ∷ []) changes q
    ∙ (λ i. over (unnamed changes q (right_false (is_eq (quad_cmp q k)) (names changes q) h) i) (marked_alone k mark.Adds q i))
    ∙ over_unmarked (is_matched (removed_patterns changes) q) (is_eq (quad_cmp q k)) mark.Adds (left_false (is_eq (quad_cmp q k)) (names changes q) h)
unnamed (Remove k ∷ changes) q h =
    last_effect-append (Remove k ∷ []) changes q
    ∙ (λ i. over (unnamed changes q (right_false (is_eq (quad_cmp q k)) (names changes q) h) i) (marked_alone k mark.Removes q i))
    ∙ over_unmarked (is_matched (removed_patterns changes) q) (is_eq (quad_cmp q k)) mark.Removes (left_false (is_eq (quad_cmp q k)) (names changes q) h)
unnamed (RemoveMatching p ∷ changes) q h =
    last_effect-append (RemoveMatching p ∷ []) changes q
    ∙ (λ i. over (unnamed changes q h i) (removal_alone p q i))
    ∙ over_removed (matches p q) (is_matched (removed_patterns changes) q)

has-named : (changes : List Change) (q : Statement) → has quad_cmp (named_quads changes) q ≡ names changes q
has-named changes q = has-sorted_set quad_total quad_exact (filter_map named changes) q

unnamed_above : (layers : List (List Change)) (q : Statement) → is_named_in layers q ≡ false → effect_above layers q ≡ removed_where (is_matched_in layers q)
unnamed_above [] q h = refl
unnamed_above (layer ∷ layers) q h =
    last_effect-append layer (flat_map (λ layer. layer) layers) q
    ∙ (λ i. over (unnamed_above layers q (right_false (has quad_cmp (named_quads layer) q) (is_named_in layers q) h) i)
    (unnamed layer q (sym (has-named layer q) ∙ left_false (has quad_cmp (named_quads layer) q) (is_named_in layers q) h) i))
    ∙ over_removed (is_matched (removed_patterns layer) q) (is_matched_in layers q)

-- ---- where no layer names a quad, it is in the set exactly where it is spared

after_removed : (b m : Bool) → is_in_after (removed_where m) b ≡ (b && not m)
after_removed true true = refl
after_removed true false = refl
after_removed false true = refl
after_removed false false = refl

has-spared : (base : List Statement) (layers : List (List Change)) (q : Statement) → has quad_cmp (counted_of Spared base layers) q ≡ (has quad_cmp base q && not (is_matched_in layers q))
has-spared base layers q = has-filter (λ q. not (is_matched_in layers q)) base q

pub is_spared : (base : List Statement) (layers : List (List Change)) (q : Statement) → (has quad_cmp base q && not (is_matched_in layers q)) ≡ has quad_cmp (counted_of Spared base layers) q
is_spared base layers q = sym (has-spared base layers q)

unnamed_same : (base : List Statement) (layers : List (List Change)) (q : Statement) → is_named_in layers q ≡ false → has quad_cmp (layered base layers) q ≡ has quad_cmp (counted_of Spared base layers) q
unnamed_same base layers q h =
    has-layered base layers q
    ∙ ap (λ e. is_in_after e (has quad_cmp base q)) (unnamed_above layers q h)
    ∙ after_removed (has quad_cmp base q) (is_matched_in layers q)
    ∙ is_spared base layers q

pub sorted-spared : (base : List Statement) (layers : List (List Change)) → IsStrictlySortedBy quad_cmp base → IsStrictlySortedBy quad_cmp (counted_of Spared base layers)
sorted-spared base layers s = IsStrictlySortedBy-filter quad_cmp (λ q. not (is_matched_in layers q)) base s

unnamed_of : Pattern → List (List Change) → List Statement → List Statement
unnamed_of p layers quads = filter (λ q. matches p q && not (is_named_in layers q)) quads

split : (p : Pattern) (layers : List (List Change)) (quads : List Statement) → count_by (λ q. matches p q && is_named_in layers q) quads + length (unnamed_of p layers quads) ≡ length (filter (matches p) quads)
unfolding unnamed_of
split p layers quads =
    ap (λ n. count_by (λ q. matches p q && is_named_in layers q) quads + n) (length-filter (λ q. matches p q && not (is_named_in layers q)) quads)
    ∙ count-apart (matches p) (λ q. matches p q && is_named_in layers q) (λ q. matches p q && not (is_named_in layers q)) quads (λ q. parts (matches p q) (is_named_in layers q))
    ∙ sym (length-filter (matches p) quads)
  where
    parts : (m n : Bool) → (m ≡ ((m && n) || (m && not n))) × (((m && n) && (m && not n)) ≡ false)
    parts true true = (refl, refl)
    parts true false = (refl, refl)
    parts false n = (refl, refl)

fewer : (p : Pattern) (layers : List (List Change)) (quads : List Statement) → count_by (λ q. matches p q && is_named_in layers q) quads ≤ length (filter (matches p) quads)
fewer p layers quads = let a = split p layers quads in omega (arith, a)

module _ (p : Pattern) (base : List Statement) (layers : List (List Change)) (s : IsStrictlySortedBy quad_cmp base) where
  rest_same : unnamed_of p layers (layered base layers) ≡ unnamed_of p layers (counted_of Spared base layers)
  unfolding unnamed_of
  rest_same = same_set quad_total quad_exact _ _
      (IsStrictlySortedBy-filter quad_cmp (λ q. matches p q && not (is_named_in layers q)) (layered base layers) (sorted-layered base layers s))
      (IsStrictlySortedBy-filter quad_cmp (λ q. matches p q && not (is_named_in layers q)) (counted_of Spared base layers) (sorted-spared base layers s))
      (λ q. has-filter (λ q. matches p q && not (is_named_in layers q)) (layered base layers) q
      ∙ at q (is_named_in layers q) refl (matches p q)
      ∙ sym (has-filter (λ q. matches p q && not (is_named_in layers q)) (counted_of Spared base layers) q))
    where
      never : (a b m : Bool) → (a && (m && not true)) ≡ (b && (m && not true))
      never true true true = refl
      never true true false = refl
      never true false true = refl
      never true false false = refl
      never false true true = refl
      never false true false = refl
      never false false true = refl
      never false false false = refl

      at : (q : Statement) (n : Bool) → is_named_in layers q ≡ n → (m : Bool) → (has quad_cmp (layered base layers) q && (m && not n)) ≡ (has quad_cmp (counted_of Spared base layers) q && (m && not n))
      at q true h m = never (has quad_cmp (layered base layers) q) (has quad_cmp (counted_of Spared base layers) q) m
      at q false h m = ap (λ b. b && (m && not false)) (unnamed_same base layers q h)

  -- what is in the one set and not in the other is named
  pub named_apart : (count_by (λ q. matches p q && is_named_in layers q) (counted_of Spared base layers) + length (filter (matches p) (layered base layers)))
      ≡ (count_by (λ q. matches p q && is_named_in layers q) (layered base layers) + length (filter (matches p) (counted_of Spared base layers)))
  named_apart =
      let a = split p layers (layered base layers) in
      let b = split p layers (counted_of Spared base layers) in
      let e = ap length rest_same in
      omega (arith, a, b, e)

-- ---- what removed patterns match

-- one pattern more
pub matched_last : (p last : Pattern) (before : List Pattern) (below : List (List Change)) (quads : List Statement)
    → length (filter (λ q. matches p q && (matches last q && not (is_matched before q || is_matched_in below q))) quads)
    + count_by (λ q. matches p q && (is_matched before q && not (is_matched_in below q))) quads
    ≡ count_by (λ q. matches p q && (is_matched (before ++ last ∷ []) q && not (is_matched_in below q))) quads
matched_last p last before below quads =
    ap (λ n. n + count_by (λ q. matches p q && (is_matched before q && not (is_matched_in below q))) quads)
    (length-filter (λ q. matches p q && (matches last q && not (is_matched before q || is_matched_in below q))) quads)
    ∙ count-apart _ _ _ quads (λ q. parts (matches p q) (matches last q) (is_matched before q) (is_matched_in below q) (is_matched (before ++ last ∷ []) q) (any_last (λ r. matches r q) before last))
  where
    parts : (m l b u a : Bool) → (l || b) ≡ a → ((m && (a && not u)) ≡ ((m && (l && not (b || u))) || (m && (b && not u)))) × (((m && (l && not (b || u))) && (m && (b && not u))) ≡ false)
    parts false l b u a e = (refl, refl)
    parts true true true true true e = (refl, refl)
    parts true true true false true e = (refl, refl)
    parts true true false true true e = (refl, refl)
    parts true true false false true e = (refl, refl)
    parts true true b u false e = cc
    parts true false true true true e = (refl, refl)
    parts true false true false true e = (refl, refl)
    parts true false true u false e = cc
    parts true false false u true e = cc
    parts true false false true false e = (refl, refl)
    parts true false false false false e = (refl, refl)

-- one layer more
pub matched_layer : (p : Pattern) (layer : List Change) (below : List (List Change)) (quads : List Statement)
    → count_by (λ q. matches p q && (is_matched (removed_patterns layer) q && not (is_matched_in below q))) quads + count_by (λ q. matches p q && is_matched_in below q) quads
    ≡ count_by (λ q. matches p q && is_matched_in (below ++ layer ∷ []) q) quads
matched_layer p layer below quads =
    count-apart _ _ _ quads (λ q. parts (matches p q) (is_matched (removed_patterns layer) q) (is_matched_in below q) (is_matched_in (below ++ layer ∷ []) q)
    (any_last (λ layer. is_matched (removed_patterns layer) q) below layer))
  where
    parts : (m l b a : Bool) → (l || b) ≡ a → ((m && a) ≡ ((m && (l && not b)) || (m && b))) × (((m && (l && not b)) && (m && b)) ≡ false)
    parts false l b a e = (refl, refl)
    parts true true true true e = (refl, refl)
    parts true true false true e = (refl, refl)
    parts true true b false e = cc
    parts true false true true e = (refl, refl)
    parts true false true false e = cc
    parts true false false true e = cc
    parts true false false false e = (refl, refl)

-- what is left is spared
pub spared_is : (p : Pattern) (layers : List (List Change)) (quads : List Statement)
    → count_by (λ q. matches p q && is_matched_in layers q) quads + length (filter (matches p) (counted_of Spared quads layers)) ≡ length (filter (matches p) quads)
spared_is p layers quads =
    ap (λ n. count_by (λ q. matches p q && is_matched_in layers q) quads + n) (kept quads)
    ∙ count-apart (matches p) (λ q. matches p q && is_matched_in layers q) (λ q. matches p q && not (is_matched_in layers q)) quads (λ q. parts (matches p q) (is_matched_in layers q))
    ∙ sym (length-filter (matches p) quads)
  where
    parts : (m n : Bool) → (m ≡ ((m && n) || (m && not n))) × (((m && n) && (m && not n)) ≡ false)
    parts true true = (refl, refl)
    parts true false = (refl, refl)
    parts false n = (refl, refl)

    kept : (quads : List Statement) → length (filter (matches p) (counted_of Spared quads layers)) ≡ count_by (λ q. matches p q && not (is_matched_in layers q)) quads
    kept [] = refl
    kept (q ∷ qs) = at (matches p q) (is_matched_in layers q) refl (kept qs) ∙ sym (count-cons (λ q. matches p q && not (is_matched_in layers q)) q qs)
      where
        at : (m n : Bool) → matches p q ≡ m → length (filter (matches p) (counted_of Spared qs layers)) ≡ count_by (λ q. matches p q && not (is_matched_in layers q)) qs
            → length (filter (matches p) (cond (not n) (q ∷ counted_of Spared qs layers) (counted_of Spared qs layers))) ≡ cond (m && not n) 1 0 + count_by (λ q. matches p q && not (is_matched_in layers q)) qs
        at true true e r = omega (arith, r)
        at false true e r = omega (arith, r)
        at true false e r = ap (λ b. length (cond b (q ∷ filter (matches p) (counted_of Spared qs layers)) (filter (matches p) (counted_of Spared qs layers)))) e ∙ omega (arith, r)
        at false false e r = ap (λ b. length (cond b (q ∷ filter (matches p) (counted_of Spared qs layers)) (filter (matches p) (counted_of Spared qs layers)))) e ∙ omega (arith, r)

-- ---- named quads, one by one

filter-both : {X : Type 0} (f g : X → Bool) (xs : List X) → filter (λ x. f x && g x) xs ≡ filter g (filter f xs)
filter-both f g [] = refl
filter-both f g (x ∷ xs) = at (f x) (filter-both f g xs)
  where
    at : (b : Bool) → filter (λ x. f x && g x) xs ≡ filter g (filter f xs) → cond (b && g x) (x ∷ filter (λ x. f x && g x) xs) (filter (λ x. f x && g x) xs) ≡ filter g (cond b (x ∷ filter f xs) (filter f xs))
    at true r = λ i. cond (g x) (x ∷ r i) (r i)
    at false r = r

count-keys : (f : Statement → Bool) (es : List (Statement × Mark)) → count_by (λ e. f e.0) es ≡ count_by f (keys_of es)
count-keys f [] = refl
count-keys f (e ∷ es) = count-cons (λ (e : Statement × Mark). f e.0) e es ∙ ap (λ n. cond (f e.0) 1 0 + n) (count-keys f es) ∙ sym (count-cons f e.0 (keys_of es))

-- the quads of one set in another one are those of that one in this
pub named_quads_counted : (p : Pattern) (below : List (List Change)) (layer : List Change) (quads : List Statement) (near : List (Statement × Mark)) → IsStrictlySortedBy quad_cmp quads
    → filter (matches p) (keys_of near) ≡ filter (matches p) (named_quads layer)
    → count_by (λ e. matches p e.0 && (has quad_cmp quads e.0 && not (is_named_in below e.0))) near
    ≡ count_by (λ q. matches p q && (has quad_cmp (named_quads layer) q && not (is_named_in below q))) quads
named_quads_counted p below layer quads near s n =
    let f = λ (q : Statement). has quad_cmp quads q && not (is_named_in below q) in
    let g = λ (q : Statement). has quad_cmp (named_quads layer) q && not (is_named_in below q) in
    count-keys (λ q. matches p q && f q) near
    ∙ sym (length-filter (λ q. matches p q && f q) (keys_of near))
    ∙ ap length (filter-both (matches p) f (keys_of near) ∙ ap (filter f) n ∙ sym (filter-both (matches p) f (named_quads layer)) ∙ common)
    ∙ length-filter (λ q. matches p q && g q) quads
  where
    swap : (a b m u : Bool) → (a && (m && (b && not u))) ≡ (b && (m && (a && not u)))
    swap true true m u = refl
    swap true false true u = refl
    swap true false false u = refl
    swap false true true u = refl
    swap false true false u = refl
    swap false false m u = refl

    common : filter (λ q. matches p q && (has quad_cmp quads q && not (is_named_in below q))) (named_quads layer) ≡ filter (λ q. matches p q && (has quad_cmp (named_quads layer) q && not (is_named_in below q))) quads
    common = same_set quad_total quad_exact _ _
        (IsStrictlySortedBy-filter quad_cmp (λ q. matches p q && (has quad_cmp quads q && not (is_named_in below q))) (named_quads layer) (sorted_set-sorted quad_total quad_exact (filter_map named layer)))
        (IsStrictlySortedBy-filter quad_cmp (λ q. matches p q && (has quad_cmp (named_quads layer) q && not (is_named_in below q))) quads s)
        (λ q. has-filter (λ q. matches p q && (has quad_cmp quads q && not (is_named_in below q))) (named_quads layer) q
        ∙ swap (has quad_cmp (named_quads layer) q) (has quad_cmp quads q) (matches p q) (is_named_in below q)
        ∙ sym (has-filter (λ q. matches p q && (has quad_cmp (named_quads layer) q && not (is_named_in below q))) quads q))

-- one layer more
pub named_layer : (p : Pattern) (layer : List Change) (below : List (List Change)) (quads : List Statement)
    → count_by (λ q. matches p q && (has quad_cmp (named_quads layer) q && not (is_named_in below q))) quads + count_by (λ q. matches p q && is_named_in below q) quads
    ≡ count_by (λ q. matches p q && is_named_in (below ++ layer ∷ []) q) quads
named_layer p layer below quads =
    count-apart _ _ _ quads (λ q. parts (matches p q) (has quad_cmp (named_quads layer) q) (is_named_in below q) (is_named_in (below ++ layer ∷ []) q)
    (any_last (λ layer. has quad_cmp (named_quads layer) q) below layer))
  where
    parts : (m l b a : Bool) → (l || b) ≡ a → ((m && a) ≡ ((m && (l && not b)) || (m && b))) × (((m && (l && not b)) && (m && b)) ≡ false)
    parts false l b a e = (refl, refl)
    parts true true true true e = (refl, refl)
    parts true true false true e = (refl, refl)
    parts true true b false e = cc
    parts true false true true e = (refl, refl)
    parts true false true false e = cc
    parts true false false true e = cc
    parts true false false false e = (refl, refl)

-- ---- numbers

pub no_more : {X : Type 0} (f g h : X → Bool) (xs : List X) (a b most : ℕ) → a ≡ count_by f xs → b ≡ count_by g xs → count_by f xs + count_by g xs ≡ count_by h xs → most ≡ length xs → a + b ≤ most
no_more f g h xs a b most e d s l = omega (arith, e, d, s, l, count_by-le-length h xs)

pub at_most : {X : Type 0} (f : X → Bool) (xs : List X) (a most : ℕ) → a ≡ count_by f xs → most ≡ length xs → a ≤ most
at_most f xs a most e l = omega (arith, e, l, count_by-le-length f xs)

-- ---- nothing is matched or named where no layer is left

and_false : (a : Bool) → (a && false) ≡ false
and_false true = refl
and_false false = refl

pub none_matched : (p : Pattern) (removed : List Pattern) (below : List (List Change)) (quads : List Statement) → length removed ≡ 0
    → 0 ≡ count_by (λ q. matches p q && (is_matched removed q && not (is_matched_in below q))) quads
none_matched p [] below quads e = sym (count-none (λ q. matches p q && false) quads (λ q. and_false (matches p q)))
none_matched p (r ∷ rs) below quads e = absurd (omega arith)

pub none_matched_in : {X : Type 0} (f : X → List Change) (p : Pattern) (layers : List X) (quads : List Statement) → length layers ≡ 0 → 0 ≡ count_by (λ q. matches p q && is_matched_in (map f layers) q) quads
none_matched_in f p [] quads e = sym (count-none (λ q. matches p q && false) quads (λ q. and_false (matches p q)))
none_matched_in f p (l ∷ ls) quads e = absurd (omega arith)

pub none_named_in : {X : Type 0} (f : X → List Change) (p : Pattern) (layers : List X) (quads : List Statement) → length layers ≡ 0 → 0 ≡ count_by (λ q. matches p q && is_named_in (map f layers) q) quads
none_named_in f p [] quads e = sym (count-none (λ q. matches p q && false) quads (λ q. and_false (matches p q)))
none_named_in f p (l ∷ ls) quads e = absurd (omega arith)

-- ---- numbers that stand still at their type's end

pub small_min : (a most : ℕ) → a ≤ most → min a most ≡ a
small_min a most l = min-eq_left l

at_end : (a most : ℕ) → most ≤ a → min a most ≡ most
at_end a most l = min-eq_right l

pub still_sum : (a b most : ℕ) → min (a + min b most) most ≡ min (a + b) most
still_sum a b most = at (cases_lt b most)
  where
    at : (b < most) ⊎ (most ≤ b) → min (a + min b most) most ≡ min (a + b) most
    at (inl l) = ap (λ n. min (a + n) most) (small_min b most (omega arith))
    at (inr l) = ap (λ n. min (a + n) most) (at_end b most l) ∙ at_end (a + most) most (omega arith) ∙ sym (at_end (a + b) most (omega arith))

-- ---- the number of the quads that match

-- those that are lost are among those that are spared
pub lost_is : (p : Pattern) (base : List Statement) (layers : List (List Change)) (spared lost : ℕ) → spared ≡ length (filter (matches p) (counted_of Spared base layers))
    → lost ≡ min (count_by (λ q. matches p q && is_named_in layers q) (counted_of Spared base layers)) (2 ^ 64 - 1) → lost ≤ spared
lost_is p base layers spared lost e f =
    let few : count_by (λ q. matches p q && is_named_in layers q) (counted_of Spared base layers) ≤ length (filter (matches p) (counted_of Spared base layers)) =
    fewer p layers (counted_of Spared base layers) in
    let low = min-le_left (count_by (λ q. matches p q && is_named_in layers q) (counted_of Spared base layers)) (2 ^ 64 - 1) in
    omega (arith, e, f, few, low)

pub gained_is : (p : Pattern) (base : List Statement) (layers : List (List Change)) → IsStrictlySortedBy quad_cmp base → (spared lost gained most : ℕ) → spared ≤ most
    → spared ≡ length (filter (matches p) (counted_of Spared base layers))
    → lost ≡ min (count_by (λ q. matches p q && is_named_in layers q) (counted_of Spared base layers)) most
    → gained ≡ min (count_by (λ q. matches p q && is_named_in layers q) (layered base layers)) most
    → min (spared - lost + gained) most ≡ min (length (filter (matches p) (layered base layers))) most
gained_is p base layers s spared lost gained most small e f g =
    let few = fewer p layers (counted_of Spared base layers) in
    let apart = named_apart p base layers s in
    let whole = count_by (λ q. matches p q && is_named_in layers q) (layered base layers) in
    let lost_whole : lost ≡ count_by (λ q. matches p q && is_named_in layers q) (counted_of Spared base layers) = f ∙ min-eq_left (omega (arith, few, e, small)) in
    ap (λ n. min (spared - lost + n) most) g
    ∙ still_sum (spared - lost) whole most
    ∙ ap (λ n. min n most) (omega (arith, apart, lost_whole, e, few))

-- ---- whether there is no quad

-- no quad matches the pattern that gives no part exactly where there is none
pub none_there : (quads : List Statement) (most : ℕ) → 1 ≤ most → min (length (filter (matches everything) quads)) most ≡ 0 → quads ≡ []
none_there [] most l e = refl
none_there (q ∷ qs) most l e = absurd (at (cases_lt (length (filter (matches everything) (q ∷ qs))) most))
  where
    some : 1 ≤ length (filter (matches everything) (q ∷ qs))
    some = let n = ap length (filter-everything (q ∷ qs)) in omega (arith, n)

    at : (length (filter (matches everything) (q ∷ qs)) < most) ⊎ (most ≤ length (filter (matches everything) (q ∷ qs))) → ⊥
    at (inl m) = let n = small_min (length (filter (matches everything) (q ∷ qs))) most (omega arith) in omega (arith, n, e, some)
    at (inr m) = let n = at_end (length (filter (matches everything) (q ∷ qs))) most m in omega (arith, n, e, l)

pub none_counted : (quads : List Statement) (most : ℕ) → quads ≡ [] → min (length (filter (matches everything) quads)) most ≡ 0
none_counted quads most e = ap (λ qs. min (length (filter (matches everything) qs)) most) e ∙ small_min 0 most (omega arith)
