-- One more older change of those that are gathered, and what is to be kept of them.
use Rattle.std.proofs.Common.{◌≡◌, Bool, true, false, not, ◌||◌, ◌&&◌, cond, List, [], ◌∷◌, ◌++◌, map, filter, reverse, Option, Some, None, length, arith, append_assoc, refl, sym, ap, subst, ◌∙◌}
use Rattle.std.specs.List.{filter_map, list_any, AllByRecursion, dedup, dedup_from}
use Rattle.std.specs.List.Sorted.{IsStrictlySortedBy, IsSorted, IsStable, IsPermutation, ties}
use Rattle.std.specs.Ordering.{eq_by_cmp, is_eq, is_lt, ordering_reverse}
use Rattle.std.specs.Map.{lookup, keys_of}
use Rattle.std.specs.BTreeMap.{is_at}
use Rattle.std.specs.Option.{is_some}
use Rattle.std.specs.declared.cmp.Ordering.{Ordering}
use Rattle.std.specs.declared.cmp.Ordering.TheVariants.{Less, Equal, Greater}
use Rattle.std.proofs.lemmas.Cmp.{alike_right}
use Rattle.std.proofs.lemmas.List.{reverse-append, map-append}
use Rattle.std.proofs.lemmas.List.Elements.{filter_map-append}
use Rattle.std.proofs.lemmas.List.Folds.{list_any-append}
use Rattle.std.proofs.lemmas.List.Kept.{IsStrictlySortedBy-dedup}
use Rattle.std.proofs.lemmas.List.Sorted.{list_any-IsPermutation, IsPermutation-map, IsPermutation-reverse}
use Rattle.std.proofs.lemmas.Map.Made.{is_some-lookup}
use Rattle.rdf_term.specs.Statement.{Statement}
use Rattle.rdf_term.specs.Order.{quad_cmp}
use Rattle.rdf_term.specs.OrderLaws.{quad_total, quad_exact}
use Rattle.rdf_term.specs.Sets.{in_order}
use Rattle.rdf_term.specs.Matching.{matches}
use Rattle.rdf_term.specs.declared.pattern.Pattern.{Pattern}
use Rattle.rdf_term.proofs.SetLemmas.{has}
use Rattle.change_set.specs.declared.change.Change.{Change}
use Rattle.change_set.specs.declared.change.Change.TheVariants.{RemoveMatching}
use Rattle.change_set.specs.declared.effect.Effect.{Effect}
use Rattle.change_set.specs.declared.effect.Effect.TheVariants.{Added, Removed, Untouched}
use Rattle.change_set.specs.declared.effect.Mark.{Mark}
use Rattle.change_set.specs.declared.effect.Mark.TheVariants as mark
use Rattle.change_set.specs.Content.{last_effect, named, SameChanges}
use Rattle.change_set.specs.Kept.{effect_of, marked, marked_entry, changes_of, gathered_of, marked_cmp, marked_total, IsInOrder}
use Rattle.change_set.proofs.Effects.{over, last_effect-append, last_effect-patterns, removed_where, removal_alone, effect_where, marked_alone, effect_at, effect_in, over_kept, last_effect-kept, names, named-kept, named_from_names, SameChanges-refl, SameChanges-trans, SameChanges-append}

-- ---- what gathered changes do

effect_more : (b : Bool) (m : Mark) (o : Option Mark) → over (effect_where b m) (effect_at o) ≡ effect_at (cond b (Some m) o)
effect_more true mark.Adds o = refl
effect_more true mark.Removes o = refl
effect_more false m o = refl

-- of marks that are read from the newest to the oldest the first of a quad decides
last_effect-reversed : (es : List (Statement × Mark)) (q : Statement) → last_effect (map marked_entry (reverse es)) q ≡ effect_at (lookup (is_at (quad_cmp q)) es)
last_effect-reversed [] q = refl
last_effect-reversed (e ∷ es) q =
    ap (λ (r : List (Statement × Mark)). last_effect (map marked_entry r) q) (reverse-append (e ∷ []) es)
    ∙ ap (λ changes. last_effect changes q) (map-append marked_entry (reverse es) (e ∷ []))
    ∙ last_effect-append (map marked_entry (reverse es)) (marked_entry e ∷ []) q
    ∙ (λ i. over (marked_alone e.0 e.1 q i) (last_effect-reversed es q i))
    ∙ effect_more (is_eq (quad_cmp q e.0)) e.1 (lookup (is_at (quad_cmp q)) es)

last_effect-gathered : (ps : List Pattern) (es : List (Statement × Mark)) (q : Statement) → last_effect (gathered_of ps es) q ≡ effect_in ps (lookup (is_at (quad_cmp q)) es) q
last_effect-gathered ps es q =
    last_effect-append (map RemoveMatching ps) (map marked_entry (reverse es)) q
    ∙ (λ i. over (last_effect-reversed es q i) (last_effect-patterns ps q i))
    ∙ over_kept ps (lookup (is_at (quad_cmp q)) es) q

-- ---- an older change that names a quad

-- the mark of a quad that newer patterns may match
abbrev pub settled : List Pattern → Statement × Mark → Mark
settled ps e = cond (list_any (λ p. matches p e.0) ps) mark.Removes e.1

is_Equal : (o : Ordering) → is_eq o ≡ true → o ≡ Equal
is_Equal Less e = cc
is_Equal Equal e = refl
is_Equal Greater e = cc

swap_settled : (a : Bool) (m : Mark) → over (effect_of (cond a mark.Removes m)) (removed_where a) ≡ over (removed_where a) (effect_of m)
swap_settled true m = refl
swap_settled false mark.Adds = refl
swap_settled false mark.Removes = refl

swap_untouched : (a : Bool) → over Untouched (removed_where a) ≡ over (removed_where a) Untouched
swap_untouched true = refl
swap_untouched false = refl

swap_marked : (ps : List Pattern) (e : Statement × Mark) (q : Statement)
    → over (effect_where (is_eq (quad_cmp q e.0)) (settled ps e)) (removed_where (list_any (λ p. matches p q) ps))
    ≡ over (removed_where (list_any (λ p. matches p q) ps)) (effect_where (is_eq (quad_cmp q e.0)) e.1)
swap_marked ps e q = at (is_eq (quad_cmp q e.0)) refl
  where
    at : (b : Bool) → is_eq (quad_cmp q e.0) ≡ b
        → over (effect_where b (settled ps e)) (removed_where (list_any (λ p. matches p q) ps)) ≡ over (removed_where (list_any (λ p. matches p q) ps)) (effect_where b e.1)
    at true h = let same : q ≡ e.0 = quad_exact q e.0 (is_Equal (quad_cmp q e.0) h) in
        subst (λ (r : Statement). over (effect_of (settled ps e)) (removed_where (list_any (λ p. matches p r) ps)) ≡ over (removed_where (list_any (λ p. matches p r) ps)) (effect_of e.1))
        (sym same) (swap_settled (list_any (λ p. matches p e.0) ps) e.1)
    at false h = swap_untouched (list_any (λ p. matches p q) ps)

over_assoc : (a b c : Effect) → over (over a b) c ≡ over a (over b c)
over_assoc Added b c = refl
over_assoc Removed b c = refl
over_assoc Untouched b c = refl

reverse_push : (es : List (Statement × Mark)) (e : Statement × Mark) → map marked_entry (reverse (es ++ e ∷ [])) ≡ marked_entry e ∷ map marked_entry (reverse es)
reverse_push es e = ap (map marked_entry) (reverse-append es (e ∷ []))

named_first : (q : Statement) (m : Mark) (changes : List Change) → filter_map named (marked q m ∷ changes) ≡ q ∷ filter_map named changes
named_first q mark.Adds changes = refl
named_first q mark.Removes changes = refl

named-patterns : (ps : List Pattern) (changes : List Change) → filter_map named (map RemoveMatching ps ++ changes) ≡ filter_map named changes
named-patterns [] changes = refl
named-patterns (p ∷ ps) changes = named-patterns ps changes

pub SameChanges-older_mark : (ps : List Pattern) (es : List (Statement × Mark)) (e : Statement × Mark)
    → SameChanges (gathered_of ps (es ++ (e.0, settled ps e) ∷ [])) (marked_entry e ∷ gathered_of ps es)
SameChanges-older_mark ps es e = record { effects = effects; names = ap in_order named_alike }
  where
    effects : (q : Statement) → last_effect (gathered_of ps (es ++ (e.0, settled ps e) ∷ [])) q ≡ last_effect (marked_entry e ∷ gathered_of ps es) q
    effects q =
        ap (λ changes. last_effect (map RemoveMatching ps ++ changes) q) (reverse_push es (e.0, settled ps e))
        ∙ last_effect-append (map RemoveMatching ps) (marked e.0 (settled ps e) ∷ (map marked_entry (reverse es))) q
        ∙ (λ i. over (last_effect-append (marked e.0 (settled ps e) ∷ []) (map marked_entry (reverse es)) q i) (last_effect-patterns ps q i))
        ∙ over_assoc (last_effect (map marked_entry (reverse es)) q) (last_effect (marked e.0 (settled ps e) ∷ []) q) (removed_where (list_any (λ p. matches p q) ps))
        ∙ ap (λ f. over (last_effect (map marked_entry (reverse es)) q) (over f (removed_where (list_any (λ p. matches p q) ps)))) (marked_alone e.0 (settled ps e) q)
        ∙ ap (over (last_effect (map marked_entry (reverse es)) q)) (swap_marked ps e q)
        ∙ sym (last_effect-append (marked_entry e ∷ []) (gathered_of ps es) q
        ∙ (λ i. over (last_effect-append (map RemoveMatching ps) (map marked_entry (reverse es)) q i) (marked_alone e.0 e.1 q i))
        ∙ ap (λ f. over (over (last_effect (map marked_entry (reverse es)) q) f) (effect_where (is_eq (quad_cmp q e.0)) e.1)) (last_effect-patterns ps q)
        ∙ over_assoc (last_effect (map marked_entry (reverse es)) q) (removed_where (list_any (λ p. matches p q) ps)) (effect_where (is_eq (quad_cmp q e.0)) e.1))

    named_alike : filter_map named (gathered_of ps (es ++ (e.0, settled ps e) ∷ [])) ≡ filter_map named (marked_entry e ∷ gathered_of ps es)
    named_alike =
        ap (λ changes. filter_map named (map RemoveMatching ps ++ changes)) (reverse_push es (e.0, settled ps e))
        ∙ named-patterns ps (marked e.0 (settled ps e) ∷ (map marked_entry (reverse es)))
        ∙ named_first e.0 (settled ps e) (map marked_entry (reverse es))
        ∙ sym (named_first e.0 e.1 (gathered_of ps es) ∙ ap (λ ks. e.0 ∷ ks) (named-patterns ps (map marked_entry (reverse es))))

-- ---- an older removal by pattern

pub SameChanges-older_pattern : (ps : List Pattern) (es : List (Statement × Mark)) (p : Pattern)
    → SameChanges (gathered_of (ps ++ p ∷ []) es) (RemoveMatching p ∷ gathered_of ps es)
SameChanges-older_pattern ps es p = record {
  effects = λ q.
      last_effect-append (map RemoveMatching (ps ++ p ∷ [])) (map marked_entry (reverse es)) q
      ∙ ap (over (last_effect (map marked_entry (reverse es)) q)) (last_effect-patterns (ps ++ p ∷ []) q
      ∙ ap removed_where (list_any-append (λ r. matches r q) ps (p ∷ []))
      ∙ split (list_any (λ r. matches r q) ps) (matches p q))
      ∙ sym (last_effect-append (RemoveMatching p ∷ []) (gathered_of ps es) q
      ∙ (λ i. over (last_effect-append (map RemoveMatching ps) (map marked_entry (reverse es)) q i) (removal_alone p q i))
      ∙ ap (λ f. over (over (last_effect (map marked_entry (reverse es)) q) f) (removed_where (matches p q))) (last_effect-patterns ps q)
      ∙ over_assoc (last_effect (map marked_entry (reverse es)) q) (removed_where (list_any (λ r. matches r q) ps)) (removed_where (matches p q)));
  names = ap in_order (named-patterns (ps ++ p ∷ []) (map marked_entry (reverse es)) ∙ sym (named-patterns ps (map marked_entry (reverse es))));
}
  where
    split : (a b : Bool) → removed_where (a || (b || false)) ≡ over (removed_where a) (removed_where b)
    split true b = refl
    split false true = refl
    split false false = refl

-- a pattern that matches no more than newer ones says nothing
pub SameChanges-covered : (ps : List Pattern) (es : List (Statement × Mark)) (p : Pattern)
    → ((q : Statement) → matches p q ≡ true → list_any (λ r. matches r q) ps ≡ true)
    → SameChanges (gathered_of ps es) (RemoveMatching p ∷ gathered_of ps es)
SameChanges-covered ps es p h = record {
  effects = λ q. sym (last_effect-append (RemoveMatching p ∷ []) (gathered_of ps es) q
      ∙ (λ i. over (last_effect-append (map RemoveMatching ps) (map marked_entry (reverse es)) q i) (removal_alone p q i))
      ∙ ap (λ f. over (over (last_effect (map marked_entry (reverse es)) q) f) (removed_where (matches p q))) (last_effect-patterns ps q)
      ∙ over_assoc (last_effect (map marked_entry (reverse es)) q) (removed_where (list_any (λ r. matches r q) ps)) (removed_where (matches p q))
      ∙ ap (over (last_effect (map marked_entry (reverse es)) q)) (within (list_any (λ r. matches r q) ps) (matches p q) (h q))
      ∙ sym (last_effect-append (map RemoveMatching ps) (map marked_entry (reverse es)) q ∙ ap (over (last_effect (map marked_entry (reverse es)) q)) (last_effect-patterns ps q)));
  names = refl;
}
  where
    within : (a b : Bool) → (b ≡ true → a ≡ true) → over (removed_where a) (removed_where b) ≡ removed_where a
    within true b h = refl
    within false true h = let e : false ≡ true = h refl in cc
    within false false h = refl

-- ---- what is kept

-- the mark of the first entry
abbrev first_mark : List (Statement × Mark) → Option Mark
first_mark [] = None
first_mark (e ∷ es) = Some e.1

lookup_first : (t : Statement → Bool) (es : List (Statement × Mark)) → lookup t es ≡ first_mark (filter (λ e. t e.0) es)
lookup_first t [] = refl
lookup_first t (e ∷ es) = at (t e.0) (lookup_first t es)
  where
    at : (b : Bool) → lookup t es ≡ first_mark (filter (λ e. t e.0) es) → cond b (Some e.1) (lookup t es) ≡ first_mark (cond b (e ∷ filter (λ e. t e.0) es) (filter (λ e. t e.0) es))
    at true rest = refl
    at false rest = rest

tie_is : (o p : Ordering) → p ≡ ordering_reverse o → (not (is_lt o) && not (is_lt p)) ≡ is_eq o
tie_is Less p e = refl
tie_is Equal p e = ap (λ r. not (is_lt r)) e
tie_is Greater p e = ap (λ r. not (is_lt r)) e

-- a stable sort keeps what is found first
lookup-stable : (es sorted : List (Statement × Mark)) (q : Statement) → IsStable marked_cmp es sorted → lookup (is_at (quad_cmp q)) sorted ≡ lookup (is_at (quad_cmp q)) es
lookup-stable es sorted q stable =
    let same : (λ (e : Statement × Mark). ties (λ x y. is_lt (marked_cmp x y)) (q, mark.Adds) e) ≡ (λ e. is_at (quad_cmp q) e.0) =
    (λ i e. tie_is (quad_cmp q e.0) (quad_cmp e.0 q) (quad_total.antisymm e.0 q) i) in
    lookup_first (is_at (quad_cmp q)) sorted
    ∙ ap (λ (t : Statement × Mark → Bool). first_mark (filter t sorted)) (sym same)
    ∙ ap first_mark (stable (q, mark.Adds))
    ∙ ap (λ (t : Statement × Mark → Bool). first_mark (filter t es)) same
    ∙ sym (lookup_first (is_at (quad_cmp q)) es)

lookup-dedup_from : (k : Statement × Mark) (es : List (Statement × Mark)) (q : Statement)
    → lookup (is_at (quad_cmp q)) (dedup_from (eq_by_cmp marked_cmp) k es) ≡ lookup (is_at (quad_cmp q)) (k ∷ es)
lookup-dedup_from k [] q = refl
lookup-dedup_from k (e ∷ es) q = at (lookup-dedup_from e es q) (lookup-dedup_from k es q) (quad_cmp e.0 k.0) refl
  where
    twice : (b c : Bool) (o : Option Mark) → b ≡ c → cond b (Some k.1) o ≡ cond b (Some k.1) (cond c (Some e.1) o)
    twice true c o h = refl
    twice false true o h = cc
    twice false false o h = refl

    at : lookup (is_at (quad_cmp q)) (dedup_from (eq_by_cmp marked_cmp) e es) ≡ lookup (is_at (quad_cmp q)) (e ∷ es)
        → lookup (is_at (quad_cmp q)) (dedup_from (eq_by_cmp marked_cmp) k es) ≡ lookup (is_at (quad_cmp q)) (k ∷ es)
        → (r : Ordering) → quad_cmp e.0 k.0 ≡ r
        → lookup (is_at (quad_cmp q)) (cond (is_eq r) (dedup_from (eq_by_cmp marked_cmp) k es) (k ∷ dedup_from (eq_by_cmp marked_cmp) e es)) ≡ lookup (is_at (quad_cmp q)) (k ∷ e ∷ es)
    at other same Less h = ap (cond (is_eq (quad_cmp q k.0)) (Some k.1)) other
    at other same Equal h = same ∙ twice (is_eq (quad_cmp q k.0)) (is_eq (quad_cmp q e.0)) (lookup (is_at (quad_cmp q)) es) (ap is_eq (sym (alike_right quad_total e.0 k.0 q h)))
    at other same Greater h = ap (cond (is_eq (quad_cmp q k.0)) (Some k.1)) other

lookup-dedup : (es : List (Statement × Mark)) (q : Statement) → lookup (is_at (quad_cmp q)) (dedup (eq_by_cmp marked_cmp) es) ≡ lookup (is_at (quad_cmp q)) es
lookup-dedup [] q = refl
lookup-dedup (e ∷ es) q = lookup-dedup_from e es q

all_keys : (P : Statement → Type 0) (es : List (Statement × Mark)) → AllByRecursion (λ e. P e.0) es → AllByRecursion P (keys_of es)
all_keys P [] a = tt
all_keys P (e ∷ es) a = (a.0, all_keys P es a.1)

sorted_keys : (es : List (Statement × Mark)) → IsStrictlySortedBy marked_cmp es → IsInOrder es
unfolding IsStrictlySortedBy
sorted_keys [] s = tt
sorted_keys (e ∷ es) s = (all_keys (λ k. quad_cmp e.0 k ≡ Less) es s.0, sorted_keys es s.1)

pub IsInOrder-dedup : (sorted : List (Statement × Mark)) → IsSorted marked_cmp sorted → IsInOrder (dedup (eq_by_cmp marked_cmp) sorted)
IsInOrder-dedup sorted s = sorted_keys (dedup (eq_by_cmp marked_cmp) sorted) (IsStrictlySortedBy-dedup marked_total (λ x y. refl) sorted s)

-- the same is found in entries as in those in the other direction, where it is told whether it is found alone
named-reversed : (ps : List Pattern) (es : List (Statement × Mark)) (q : Statement) → names (gathered_of ps es) q ≡ is_some (lookup (is_at (quad_cmp q)) es)
named-reversed ps es q =
    ap (λ qs. has quad_cmp qs q) (named-kept ps (reverse es))
    ∙ sym (list_any-IsPermutation (eq_by_cmp quad_cmp q) (keys_of es) (keys_of (reverse es)) (IsPermutation-map (λ (e : Statement × Mark). e.0) es (reverse es) (IsPermutation-reverse es)))
    ∙ sym (is_some-lookup (is_at (quad_cmp q)) es)

names-kept : (ps : List Pattern) (es : List (Statement × Mark)) (q : Statement) → names (changes_of ps es) q ≡ is_some (lookup (is_at (quad_cmp q)) es)
names-kept ps es q = ap (λ qs. has quad_cmp qs q) (named-kept ps es) ∙ sym (is_some-lookup (is_at (quad_cmp q)) es)

pub SameChanges-finished : (ps : List Pattern) (es sorted : List (Statement × Mark)) → IsStable marked_cmp es sorted → IsSorted marked_cmp sorted
    → SameChanges (changes_of ps (dedup (eq_by_cmp marked_cmp) sorted)) (gathered_of ps es)
SameChanges-finished ps es sorted stable s = record {
  effects = λ q.
      last_effect-kept ps (dedup (eq_by_cmp marked_cmp) sorted) q (IsInOrder-dedup sorted s)
      ∙ ap (λ o. effect_in ps o q) (found q)
      ∙ sym (last_effect-gathered ps es q);
  names = named_from_names (changes_of ps (dedup (eq_by_cmp marked_cmp) sorted)) (gathered_of ps es) (λ q.
      names-kept ps (dedup (eq_by_cmp marked_cmp) sorted) q
      ∙ ap is_some (found q)
      ∙ sym (named-reversed ps es q));
}
  where
    found : (q : Statement) → lookup (is_at (quad_cmp q)) (dedup (eq_by_cmp marked_cmp) sorted) ≡ lookup (is_at (quad_cmp q)) es
    found q = lookup-dedup sorted q ∙ lookup-stable es sorted q stable

-- ---- a loop that goes over older changes from the last to the first

pub older_step : (left before self more whole : List Change) (x : Change) → left ≡ before ++ x ∷ [] → SameChanges more (x ∷ self)
    → SameChanges (left ++ self) whole → SameChanges (before ++ more) whole
older_step left before self more whole x e s t =
    SameChanges-trans (before ++ more) (before ++ x ∷ self) whole
    (SameChanges-append before before more (x ∷ self) (SameChanges-refl before) s)
    (subst (λ changes. SameChanges changes whole) (ap (λ l. l ++ self) e ∙ append_assoc before (x ∷ []) self) t)

pub mapped_step : {X : Type 0} (f : X → Change) (left before : List X) (x : X) (self more whole : List Change) → left ≡ before ++ x ∷ [] → SameChanges more (f x ∷ self)
    → SameChanges (map f left ++ self) whole → SameChanges (map f before ++ more) whole
mapped_step f left before x self more whole e s t =
    older_step (map f left) (map f before) self more whole (f x) (ap (map f) e ∙ map-append f before (x ∷ [])) s t

pub none_left : {X : Type 0} (xs : List X) → length xs ≡ 0 → xs ≡ []
none_left [] e = refl
none_left (x ∷ xs) e = absurd (omega arith)
