-- The part of a sorted list that a pattern can match.
use Rattle.std.proofs.Common.{◌≡◌, ℕ, zero, suc, ◌+◌, ◌<◌, ◌≤◌, ◌⊎◌, inl, inr, Bool, true, false, ◌&&◌, cond, List, [], ◌∷◌, ◌++◌, length, get_or, map, filter, take, drop, length-drop, Option, Some, None, refl, sym, ap, subst, ◌∙◌, arith}
use Rattle.std.specs.List.{filter_map, slice_range, AllByRecursion}
use Rattle.std.specs.List.Sorted.{IsStrictlySortedBy, IsSorted, IsPartitionedBy, IsNonDecreasingBy, IsPartitionPoint}
use Rattle.std.specs.Map.{lookup, keys_of}
use Rattle.std.specs.BTreeMap.{is_at}
use Rattle.std.specs.Ordering.{eq_by_cmp, is_eq, is_lt, is_le, ordering_then, ordering_reverse, ordering_index}
use Rattle.std.specs.Cmp.{IsTotalOrder}
use Rattle.std.specs.declared.cmp.Ordering.{Ordering}
use Rattle.std.specs.declared.cmp.Ordering.TheVariants.{Less, Equal, Greater}
use Rattle.std.proofs.lemmas.Bool.{cases_lt}
use Rattle.std.proofs.lemmas.Map.Lookups.{CmpEqualImpliesEq}
use Rattle.std.proofs.lemmas.List.{take-append-drop, get_or-take, get_or-drop, length-take-le, map-append}
use Rattle.std.proofs.lemmas.List.Elements.{filter-append, filter_map-append}
use Rattle.std.proofs.lemmas.List.Folds.{drop_split}
use Rattle.std.proofs.lemmas.List.Sorted.{searchable_from_sorted}
use Rattle.rdf_term.specs.Statement.{Statement}
use Rattle.rdf_term.specs.Order.{term_cmp, graph_cmp, quad_cmp}
use Rattle.rdf_term.specs.OrderLaws.{term_total, graph_total, term_exact, graph_exact, quad_total, quad_exact}
use Rattle.rdf_term.specs.Matching.{matches, fits, picks_graph}
use Rattle.rdf_term.specs.declared.term.Term.{Term}
use Rattle.rdf_term.specs.declared.graph.Graph.{Graph}
use Rattle.rdf_term.specs.declared.pattern.GraphPick.{GraphPick}
use Rattle.rdf_term.specs.declared.pattern.GraphPick.TheVariants as picks
use Rattle.rdf_term.specs.declared.pattern.Pattern.{Pattern}
use Rattle.change_set.specs.declared.effect.Mark.{Mark}
use Rattle.change_set.specs.declared.effect.Mark.TheVariants as mark
use Rattle.change_set.specs.Content.{added}
use Rattle.change_set.specs.Kept.{marked_entry, kept_added, marked_cmp, marked_total, IsInOrder}
use Rattle.change_set.specs.Places.{part_place, graph_place, place, place_from_predicate, place_from_object, place_from_graph}

-- ---- places don't fall along the order of quads

abbrev Rises : Ordering → Ordering → Type 0
Rises a b = ordering_index a ≤ ordering_index b

least : (b : Ordering) → Rises Less b
least Less = omega arith
least Equal = omega arith
least Greater = omega arith

greatest : (a : Ordering) → Rises a Greater
greatest Less = omega arith
greatest Equal = omega arith
greatest Greater = omega arith

same : (a b : Ordering) → a ≡ b → Rises a b
same a b e = omega (arith, ap ordering_index e)

module _ {K : Type 0} {R : K → K → Ordering} (o : IsTotalOrder R) (exact : CmpEqualImpliesEq R) where
  turned : (x y : K) → R x y ≡ Greater → R y x ≡ Less
  turned x y e = o.antisymm y x ∙ ap ordering_reverse e

  -- one part more: where the parts tie the next ones decide
  rises_then : (x y t : K) (next a b : Ordering) → ordering_then (R x y) next ≡ Less → (next ≡ Less → Rises a b)
      → Rises (ordering_then (R x t) a) (ordering_then (R y t) b)
  rises_then x y t next a b l rest = at (R x y) refl l
    where
      below : R x y ≡ Less → (r : Ordering) → R y t ≡ r → Rises (ordering_then (R x t) a) (ordering_then r b)
      below e Less f = subst (λ k. Rises (ordering_then k a) Less) (sym (o.trans x y t e f)) (least Less)
      below e Equal f = let is : y ≡ t = exact y t f in subst (λ k. Rises (ordering_then k a) b) (sym (subst (λ z. R x z ≡ Less) is e)) (least b)
      below e Greater f = greatest (ordering_then (R x t) a)

      tied : x ≡ y → Rises a b → (r : Ordering) → R y t ≡ r → Rises (ordering_then (R x t) a) (ordering_then r b)
      tied e h Less f = subst (λ k. Rises (ordering_then k a) Less) (sym (ap (λ z. R z t) e ∙ f)) (least Less)
      tied e h Equal f = subst (λ k. Rises (ordering_then k a) b) (sym (ap (λ z. R z t) e ∙ f)) h
      tied e h Greater f = greatest (ordering_then (R x t) a)

      at : (r : Ordering) → R x y ≡ r → ordering_then r next ≡ Less → Rises (ordering_then (R x t) a) (ordering_then (R y t) b)
      at Less e l = below e (R y t) refl
      at Equal e l = tied (exact x y e) (rest l) (R y t) refl
      at Greater e l = cc

rises_part : (u : Option Term) (s t : Term) (next a b : Ordering) → ordering_then (term_cmp s t) next ≡ Less → (next ≡ Less → Rises a b)
    → Rises (part_place u s a) (part_place u t b)
rises_part None s t next a b l rest = same Equal Equal refl
rises_part (Some u) s t next a b l rest = rises_then term_total term_exact s t u next a b l rest

end_then : (o : Ordering) → ordering_then o Equal ≡ o
end_then Less = refl
end_then Equal = refl
end_then Greater = refl

rises_graph : (pick : GraphPick) (c d : Graph) → graph_cmp c d ≡ Less → Rises (graph_place pick c) (graph_place pick d)
rises_graph picks.Any c d l = same Equal Equal refl
rises_graph picks.NamedOnly c d l = same Equal Equal refl
rises_graph (picks.One g) c d l =
    subst (λ k. Rises k (graph_cmp d g)) (end_then (graph_cmp c g))
    (subst (λ k. Rises (ordering_then (graph_cmp c g) Equal) k) (end_then (graph_cmp d g))
    (rises_then graph_total graph_exact c d g Less Equal Equal (then_less (graph_cmp c d) l) (λ e. same Equal Equal refl)))
  where
    then_less : (o : Ordering) → o ≡ Less → ordering_then o Less ≡ Less
    then_less o e = ap (λ k. ordering_then k Less) e

rises : (p : Pattern) (q r : Statement) → quad_cmp q r ≡ Less → Rises (place p q) (place p r)
rises p q r l =
    rises_part p.s q.s r.s _ (place_from_predicate p q) (place_from_predicate p r) l (λ m.
    rises_part p.p q.p r.p _ (place_from_object p q) (place_from_object p r) m (λ n.
    rises_part p.o q.o r.o _ (place_from_graph p.c q) (place_from_graph p.c r) n (λ k.
    rises_graph p.c q.c r.c k)))

-- ---- what matches is among those

is_Equal : (o : Ordering) → is_eq o ≡ true → o ≡ Equal
is_Equal Less e = cc
is_Equal Equal e = refl
is_Equal Greater e = cc

reversed_Equal : (o : Ordering) → is_eq o ≡ true → ordering_reverse o ≡ Equal
reversed_Equal o e = ap ordering_reverse (is_Equal o e)

among_part : (u : Option Term) (t : Term) (next : Ordering) → fits u t ≡ true → next ≡ Equal → part_place u t next ≡ Equal
among_part None t next f e = refl
among_part (Some u) t next f e = (λ i. ordering_then (tied i) next) ∙ e
  where
    tied : term_cmp t u ≡ Equal
    tied = term_total.antisymm t u ∙ reversed_Equal (term_cmp u t) f

among_graph : (pick : GraphPick) (c : Graph) → picks_graph pick c ≡ true → graph_place pick c ≡ Equal
among_graph picks.Any c f = refl
among_graph picks.NamedOnly c f = refl
among_graph (picks.One g) c f = graph_total.antisymm c g ∙ reversed_Equal (graph_cmp g c) f

four : (a b c d : Bool) → (a && b && c && d) ≡ true → (a ≡ true) × (b ≡ true) × (c ≡ true) × (d ≡ true)
four true true true true e = (refl, refl, refl, refl)
four true true true false e = cc
four true true false d e = cc
four true false c d e = cc
four false b c d e = cc

among : (p : Pattern) (q : Statement) → matches p q ≡ true → place p q ≡ Equal
among p q m =
    let n = four (fits p.s q.s) (fits p.p q.p) (fits p.o q.o) (picks_graph p.c q.c) m in
    among_part p.s q.s _ n.0 (among_part p.p q.p _ n.1 (among_part p.o q.o _ n.2 (among_graph p.c q.c n.3)))

refuted : (b : Bool) → (b ≡ true → ⊥) → b ≡ false
refuted true h = absurd (h refl)
refuted false h = refl

pub before : (p : Pattern) (q : Statement) → is_lt (place p q) ≡ true → matches p q ≡ false
before p q l = refuted (matches p q) (λ m. let e : false ≡ true = sym (ap is_lt (among p q m)) ∙ l in cc)

pub behind : (p : Pattern) (q : Statement) → is_le (place p q) ≡ false → matches p q ≡ false
behind p q l = refuted (matches p q) (λ m. let e : true ≡ false = sym (ap is_le (among p q m)) ∙ l in cc)

-- ---- the list falls into what is before, among and behind

all_at : {X : Type 0} (P : X → Type 0) (xs : List X) (i : ℕ) (d : X) → AllByRecursion P xs → i < length xs → P (get_or xs i d)
all_at P [] i d a l = absurd (omega arith)
all_at P (x ∷ xs) zero d a l = a.0
all_at P (x ∷ xs) (suc i) d a l = all_at P xs i d a.1 (omega arith)

all_keys_at : (P : Statement → Type 0) (es : List (Statement × Mark)) (i : ℕ) (d : Statement × Mark) → AllByRecursion P (keys_of es) → i < length es → P (get_or es i d).0
all_keys_at P [] i d a l = absurd (omega arith)
all_keys_at P (e ∷ es) zero d a l = a.0
all_keys_at P (e ∷ es) (suc i) d a l = all_keys_at P es i d a.1 (omega arith)

ascends : (es : List (Statement × Mark)) (i j : ℕ) (d : Statement × Mark) → IsInOrder es → i < j → j < length es → quad_cmp (get_or es i d).0 (get_or es j d).0 ≡ Less
unfolding IsStrictlySortedBy
ascends [] i j d s l b = absurd (omega arith)
ascends (e ∷ es) i zero d s l b = absurd (omega arith)
ascends (e ∷ es) zero (suc j) d s l b = all_keys_at (λ k. quad_cmp e.0 k ≡ Less) es j d s.0 (omega arith)
ascends (e ∷ es) (suc i) (suc j) d s l b = ascends es i j d s.1 (omega arith) (omega arith)

rises_at : (p : Pattern) (es : List (Statement × Mark)) (i j : ℕ) (d : Statement × Mark) → IsInOrder es → i ≤ j → j < length es
    → Rises (place p (get_or es i d).0) (place p (get_or es j d).0)
rises_at p es i j d s l b = at (cases_lt i j)
  where
    at : (i < j) ⊎ (j ≤ i) → Rises (place p (get_or es i d).0) (place p (get_or es j d).0)
    at (inl m) = rises p (get_or es i d).0 (get_or es j d).0 (ascends es i j d s m b)
    at (inr m) = let e : i ≡ j = omega arith in same _ _ (ap (λ k. place p (get_or es k d).0) e)

lower_lt : (a b : Ordering) → Rises a b → is_lt b ≡ true → is_lt a ≡ true
lower_lt Less b r h = refl
lower_lt Equal Less r h = absurd (omega arith)
lower_lt Equal Equal r h = cc
lower_lt Equal Greater r h = cc
lower_lt Greater Less r h = absurd (omega arith)
lower_lt Greater Equal r h = cc
lower_lt Greater Greater r h = cc

lower_le : (a b : Ordering) → Rises a b → is_le b ≡ true → is_le a ≡ true
lower_le Less b r h = refl
lower_le Equal b r h = refl
lower_le Greater Less r h = absurd (omega arith)
lower_le Greater Equal r h = absurd (omega arith)
lower_le Greater Greater r h = cc

pub lower_parts : (p : Pattern) (es : List (Statement × Mark)) → IsInOrder es → IsPartitionedBy (λ e. is_lt (place p e.0)) es
lower_parts p es s i j d l b h = lower_lt (place p (get_or es i d).0) (place p (get_or es j d).0) (rises_at p es i j d s l b) h

pub upper_parts : (p : Pattern) (es : List (Statement × Mark)) → IsInOrder es → IsPartitionedBy (λ e. is_le (place p e.0)) es
upper_parts p es s i j d l b h = lower_le (place p (get_or es i d).0) (place p (get_or es j d).0) (rises_at p es i j d s l b) h

-- ---- what a part of the list adds

none_added : (p : Pattern) (es : List (Statement × Mark)) → ((k : ℕ) (d : Statement × Mark) → k < length es → matches p (get_or es k d).0 ≡ false) → filter (matches p) (kept_added es) ≡ []
none_added p [] h = refl
none_added p ((q, mark.Adds) ∷ es) h =
    (λ i. cond (h 0 (q, mark.Adds) (omega arith) i) (q ∷ filter (matches p) (kept_added es)) (filter (matches p) (kept_added es)))
    ∙ none_added p es (λ k d l. h (suc k) d (omega arith))
none_added p ((q, mark.Removes) ∷ es) h = none_added p es (λ k d l. h (suc k) d (omega arith))

pub added-append : (p : Pattern) (es fs : List (Statement × Mark)) → filter (matches p) (kept_added (es ++ fs)) ≡ filter (matches p) (kept_added es) ++ filter (matches p) (kept_added fs)
added-append p es fs =
    ap (λ cs. filter (matches p) (filter_map added cs)) (map-append marked_entry es fs)
    ∙ ap (filter (matches p)) (filter_map-append added (map marked_entry es) (map marked_entry fs))
    ∙ filter-append (matches p) (kept_added es) (kept_added fs)

empty_end : {X : Type 0} (xs : List X) → xs ++ [] ≡ xs
empty_end [] = refl
empty_end (x ∷ xs) = ap (λ ys. x ∷ ys) (empty_end xs)

-- the part of a list in which alone a pattern matches has all that it matches of what is taken from the entries one by one
module _ (of : List (Statement × Mark) → List Statement) (p : Pattern)
    (of-append : (es fs : List (Statement × Mark)) → filter (matches p) (of (es ++ fs)) ≡ filter (matches p) (of es) ++ filter (matches p) (of fs))
    (of_none : (es : List (Statement × Mark)) → ((k : ℕ) (d : Statement × Mark) → k < length es → matches p (get_or es k d).0 ≡ false) → filter (matches p) (of es) ≡ []) where
  middle_of : (es : List (Statement × Mark)) (start end : ℕ) → start ≤ end → end ≤ length es
      → ((k : ℕ) (d : Statement × Mark) → k < start → matches p (get_or es k d).0 ≡ false)
      → ((k : ℕ) (d : Statement × Mark) → end ≤ k → k < length es → matches p (get_or es k d).0 ≡ false)
      → filter (matches p) (of (slice_range es start end)) ≡ filter (matches p) (of es)
  middle_of es start end l m low high =
      let cut : take start es ++ (slice_range es start end ++ drop end es) ≡ es = ap (λ ys. take start es ++ ys) (sym (drop_split es start end l)) ∙ take-append-drop start es in
      let front : filter (matches p) (of (take start es)) ≡ [] = of_none (take start es) (λ k d b. let small : k < start = omega (arith, length-take-le start es (omega arith)) in
      ap (λ (e : Statement × Mark). matches p e.0) (get_or-take start es k d small) ∙ low k d small) in
      let back : filter (matches p) (of (drop end es)) ≡ [] = of_none (drop end es) (λ k d b.
      ap (λ (e : Statement × Mark). matches p e.0) (get_or-drop end es k d) ∙ high (end + k) d (omega arith) (inside k b)) in
      sym (ap (λ ys. filter (matches p) (of ys)) (sym cut)
      ∙ of-append (take start es) (slice_range es start end ++ drop end es)
      ∙ ap (λ ys. ys ++ filter (matches p) (of (slice_range es start end ++ drop end es))) front
      ∙ of-append (slice_range es start end) (drop end es)
      ∙ ap (λ ys. filter (matches p) (of (slice_range es start end)) ++ ys) back
      ∙ empty_end (filter (matches p) (of (slice_range es start end))))
    where
      inside : (k : ℕ) → k < length (drop end es) → end + k < length es
      inside k b = omega (arith, length-drop end es)

pub middle : (p : Pattern) (es : List (Statement × Mark)) (start end : ℕ) → start ≤ end → end ≤ length es
    → ((k : ℕ) (d : Statement × Mark) → k < start → matches p (get_or es k d).0 ≡ false)
    → ((k : ℕ) (d : Statement × Mark) → end ≤ k → k < length es → matches p (get_or es k d).0 ≡ false)
    → filter (matches p) (kept_added (slice_range es start end)) ≡ filter (matches p) (kept_added es)
middle p = middle_of kept_added p (added-append p) (none_added p)

-- ---- the quads that a part of the list names

none_named : (p : Pattern) (es : List (Statement × Mark)) → ((k : ℕ) (d : Statement × Mark) → k < length es → matches p (get_or es k d).0 ≡ false) → filter (matches p) (keys_of es) ≡ []
none_named p [] h = refl
none_named p (e ∷ es) h =
    (λ i. cond (h 0 e (omega arith) i) (e.0 ∷ filter (matches p) (keys_of es)) (filter (matches p) (keys_of es)))
    ∙ none_named p es (λ k d l. h (suc k) d (omega arith))

named-append : (p : Pattern) (es fs : List (Statement × Mark)) → filter (matches p) (keys_of (es ++ fs)) ≡ filter (matches p) (keys_of es) ++ filter (matches p) (keys_of fs)
named-append p [] fs = refl
named-append p (e ∷ es) fs = at (matches p e.0) (named-append p es fs)
  where
    at : (b : Bool) → filter (matches p) (keys_of (es ++ fs)) ≡ filter (matches p) (keys_of es) ++ filter (matches p) (keys_of fs)
        → cond b (e.0 ∷ filter (matches p) (keys_of (es ++ fs))) (filter (matches p) (keys_of (es ++ fs))) ≡ cond b (e.0 ∷ filter (matches p) (keys_of es)) (filter (matches p) (keys_of es)) ++ filter (matches p) (keys_of fs)
    at true r = ap (λ qs. e.0 ∷ qs) r
    at false r = r

pub middle_named : (p : Pattern) (es : List (Statement × Mark)) (start end : ℕ) → start ≤ end → end ≤ length es
    → ((k : ℕ) (d : Statement × Mark) → k < start → matches p (get_or es k d).0 ≡ false)
    → ((k : ℕ) (d : Statement × Mark) → end ≤ k → k < length es → matches p (get_or es k d).0 ≡ false)
    → filter (matches p) (keys_of (slice_range es start end)) ≡ filter (matches p) (keys_of es)
middle_named p = middle_of keys_of p (named-append p) (none_named p)

-- ---- the mark of one quad

-- an entry that ties with the quad is the one that a look-up finds
pub found_at : (es : List (Statement × Mark)) (q : Statement) (i : ℕ) (d : Statement × Mark) → IsInOrder es → i < length es
    → quad_cmp (get_or es i d).0 q ≡ Equal → lookup (is_at (quad_cmp q)) es ≡ Some (get_or es i d).1
unfolding IsStrictlySortedBy
found_at [] q i d s l e = absurd (omega arith)
found_at (f ∷ es) q zero d s l e = ap (λ r. cond (is_eq r) (Some f.1) (lookup (is_at (quad_cmp q)) es)) (quad_total.antisymm q f.0 ∙ ap ordering_reverse e)
found_at (f ∷ es) q (suc i) d s l e =
    let below : quad_cmp f.0 (get_or es i d).0 ≡ Less = all_keys_at (λ k. quad_cmp f.0 k ≡ Less) es i d s.0 (omega arith) in
    let is : (get_or es i d).0 ≡ q = quad_exact (get_or es i d).0 q e in
    let above : quad_cmp q f.0 ≡ Greater = quad_total.antisymm q f.0 ∙ ap ordering_reverse (subst (λ k. quad_cmp f.0 k ≡ Less) is below) in
    ap (λ r. cond (is_eq r) (Some f.1) (lookup (is_at (quad_cmp q)) es)) above ∙ found_at es q i d s.1 (omega arith) e

none_tied : (es : List (Statement × Mark)) (q : Statement) → ((k : ℕ) (d : Statement × Mark) → k < length es → is_eq (quad_cmp q (get_or es k d).0) ≡ false) → lookup (is_at (quad_cmp q)) es ≡ None
none_tied [] q h = refl
none_tied (e ∷ es) q h = (λ i. cond (h 0 e (omega arith) i) (Some e.1) (lookup (is_at (quad_cmp q)) es)) ∙ none_tied es q (λ k d l. h (suc k) d (omega arith))

-- what a search by halves doesn't find isn't there
pub absent : (es : List (Statement × Mark)) (q : Statement) (i : ℕ) → IsInOrder es
    → (IsNonDecreasingBy (λ e. ordering_index (quad_cmp e.0 q)) es → IsPartitionPoint (λ e. quad_cmp e.0 q ≡ Less) (λ e. quad_cmp e.0 q ≡ Greater) es i)
    → lookup (is_at (quad_cmp q)) es ≡ None
absent es q i s h = none_tied es q (λ k d b. at k d b (cases_lt k i))
  where
    sorted : IsSorted marked_cmp es
    sorted k d low high = ap is_lt (quad_total.antisymm (get_or es (k + 1) d).0 (get_or es k d).0 ∙ ap ordering_reverse (ascends es k (k + 1) d s (omega arith) high))

    found : IsPartitionPoint (λ e. quad_cmp e.0 q ≡ Less) (λ e. quad_cmp e.0 q ≡ Greater) es i
    found = h (searchable_from_sorted quad_total (λ e. e.0) es q sorted)

    at : (k : ℕ) (d : Statement × Mark) → k < length es → (k < i) ⊎ (i ≤ k) → is_eq (quad_cmp q (get_or es k d).0) ≡ false
    at k d b (inl l) = ap is_eq (quad_total.antisymm q (get_or es k d).0 ∙ ap ordering_reverse (found.0 k d (omega arith) l))
    at k d b (inr l) = ap is_eq (quad_total.antisymm q (get_or es k d).0 ∙ ap ordering_reverse (found.1 k d l b))
