-- The least of joined lists is the lesser of their least ones, and the least of an ascending list is its first.
use Rattle.std.proofs.Common.{◌≡◌, ℕ, Bool, true, false, cond, Option, Some, None, List, [], ◌∷◌, ◌++◌, fold, filter, find, length, refl, sym, ap, ap₂, ◌∙◌, arith, append-nil}
use Rattle.std.specs.Prelude.{slice_get, nat_lt}
use Rattle.std.specs.List.{flat_map, filter_map}
use Rattle.std.specs.Option.{option_map}
use Rattle.std.specs.List.Sorted.{IsStrictlySortedBy}
use Rattle.std.specs.Ordering.{match_ordering, ordering_reverse}
use Rattle.std.specs.Cmp.{IsTotalOrder}
use Rattle.std.specs.BTreeSet.{insert_key}
use Rattle.std.specs.declared.cmp.Ordering.{Ordering}
use Rattle.std.specs.declared.cmp.Ordering.TheVariants.{Less, Equal, Greater}
use Rattle.std.proofs.lemmas.Map.Lookups.{CmpEqualImpliesEq}
use Rattle.std.proofs.lemmas.List.Kept.{IsStrictlySortedBy-filter}
use Rattle.std.proofs.lemmas.List.Elements.{filter-append}
use Rattle.rdf_term.specs.declared.pattern.Pattern.{Pattern}
use Rattle.rdf_term.specs.Statement.{Statement}
use Rattle.rdf_term.specs.Order.{quad_cmp}
use Rattle.rdf_term.specs.OrderLaws.{quad_total, quad_exact}
use Rattle.rdf_term.specs.Sets.{sorted_set}
use Rattle.rdf_term.proofs.SetLemmas.{sorted_set-sorted, sorted_set-is}
use Rattle.change_set.specs.Content.{named, named_quads}
use Rattle.conflict.specs.Logs.{LoggedDelta}
use Rattle.rdf_term.specs.Matching.{matches}
use Rattle.conflict.specs.Clashes.{one_matches, least, with_pattern, lesser, least_observed, quads_above, clash_above}

module _ {K : Type 0} {R : K → K → Ordering} (o : IsTotalOrder R) (exact : CmpEqualImpliesEq R) where
  turned : (x y : K) (r : Ordering) → R x y ≡ r → R y x ≡ ordering_reverse r
  turned x y r e = o.antisymm y x ∙ ap ordering_reverse e

  lesser_none : (m : Option K) → lesser R m None ≡ m
  lesser_none None = refl
  lesser_none (Some x) = refl

  -- it does not matter which two of three are compared first
  pub lesser_joined : (a b c : Option K) → lesser R (lesser R a b) c ≡ lesser R a (lesser R b c)
  lesser_joined None b c = refl
  lesser_joined (Some x) None c = refl
  lesser_joined (Some x) (Some y) None = lesser_none (lesser R (Some x) (Some y))
  lesser_joined (Some x) (Some y) (Some z) = at (R y x) refl (R z y) refl
    where
      at : (r : Ordering) → R y x ≡ r → (s : Ordering) → R z y ≡ s → lesser R (match_ordering r (Some y) (Some x) (Some x)) (Some z) ≡ lesser R (Some x) (match_ordering s (Some z) (Some y) (Some y))
      at Less e Less f = ap (λ t. match_ordering t (Some z) (Some y) (Some y)) f ∙ sym (ap (λ t. match_ordering t (Some z) (Some x) (Some x)) (o.trans z y x f e))
      at Less e Equal f = ap (λ t. match_ordering t (Some z) (Some y) (Some y)) f ∙ sym (ap (λ t. match_ordering t (Some y) (Some x) (Some x)) e)
      at Less e Greater f = ap (λ t. match_ordering t (Some z) (Some y) (Some y)) f ∙ sym (ap (λ t. match_ordering t (Some y) (Some x) (Some x)) e)
      at Equal e Less f = refl
      at Equal e Equal f = ap (λ t. match_ordering t (Some z) (Some x) (Some x)) (ap (λ w. R w x) (exact z y f) ∙ e) ∙ sym (ap (λ t. match_ordering t (Some y) (Some x) (Some x)) e)
      at Equal e Greater f = ap (λ t. match_ordering t (Some z) (Some x) (Some x)) (ap (R z) (sym (exact y x e)) ∙ f) ∙ sym (ap (λ t. match_ordering t (Some y) (Some x) (Some x)) e)
      at Greater e Less f = refl
      at Greater e Equal f = ap (λ t. match_ordering t (Some z) (Some x) (Some x)) (ap (λ w. R w x) (exact z y f) ∙ e) ∙ sym (ap (λ t. match_ordering t (Some y) (Some x) (Some x)) e)
      at Greater e Greater f =
          ap (λ t. match_ordering t (Some z) (Some x) (Some x)) (turned x z Less (o.trans x y z (turned y x Greater e) (turned z y Greater f)))
          ∙ sym (ap (λ t. match_ordering t (Some y) (Some x) (Some x)) e)

  abbrev least_from : Option K → List K → Option K
  least_from m [] = m
  least_from m (x ∷ xs) = least_from (lesser R m (Some x)) xs

  first_inserted : (acc : List K) (k : K) → slice_get (insert_key R acc k) 0 ≡ lesser R (slice_get acc 0) (Some k)
  first_inserted [] k = refl
  first_inserted (x ∷ xs) k = at (R k x)
    where
      at : (r : Ordering) → slice_get (match_ordering r (k ∷ x ∷ xs) (x ∷ xs) (x ∷ insert_key R xs k)) 0 ≡ match_ordering r (Some k) (Some x) (Some x)
      at Less = refl
      at Equal = refl
      at Greater = refl

  first_of_set : (acc xs : List K) → slice_get (fold (λ s x. insert_key R s x) acc xs) 0 ≡ least_from (slice_get acc 0) xs
  first_of_set acc [] = refl
  first_of_set acc (x ∷ xs) = first_of_set (insert_key R acc x) xs ∙ ap (λ m. least_from m xs) (first_inserted acc x)

  from_start : (m : Option K) (xs : List K) → least_from m xs ≡ lesser R m (least_from None xs)
  from_start m [] = sym (lesser_none m)
  from_start m (x ∷ xs) = from_start (lesser R m (Some x)) xs ∙ lesser_joined m (Some x) (least_from None xs) ∙ ap (lesser R m) (sym (from_start (Some x) xs))

  least_from-append : (m : Option K) (xs ys : List K) → least_from m (xs ++ ys) ≡ least_from (least_from m xs) ys
  least_from-append m [] ys = refl
  least_from-append m (x ∷ xs) ys = least_from-append (lesser R m (Some x)) xs ys

  pub least_of_both : (xs ys : List K) → slice_get (sorted_set R (xs ++ ys)) 0 ≡ lesser R (slice_get (sorted_set R xs) 0) (slice_get (sorted_set R ys) 0)
  least_of_both xs ys =
      first_of_set [] (xs ++ ys) ∙ least_from-append None xs ys ∙ from_start (least_from None xs) ys
      ∙ ap₂ (lesser R) (sym (first_of_set [] xs)) (sym (first_of_set [] ys))

  first_kept : (p : K → Bool) (xs : List K) → slice_get (filter p xs) 0 ≡ find p xs
  first_kept p [] = refl
  first_kept p (x ∷ xs) = at (first_kept p xs) (p x)
    where
      at : slice_get (filter p xs) 0 ≡ find p xs → (b : Bool) → slice_get (cond b (x ∷ filter p xs) (filter p xs)) 0 ≡ cond b (Some x) (find p xs)
      at rest true = refl
      at rest false = rest

  -- of an ascending list the least item that passes is the first one that does
  pub least_kept : (p : K → Bool) (xs : List K) → IsStrictlySortedBy R xs → slice_get (sorted_set R (filter p xs)) 0 ≡ find p xs
  least_kept p xs s =
      ap (λ l. slice_get l 0) (sym (sorted_set-is o exact (filter p xs) (filter p xs) (IsStrictlySortedBy-filter R p xs s) (λ q. refl)))
      ∙ first_kept p xs

-- of three quads, which two are compared first does not matter
pub quads_joined : (a b c : Option Statement) → lesser quad_cmp (lesser quad_cmp a b) c ≡ lesser quad_cmp a (lesser quad_cmp b c)
quads_joined a b c = lesser_joined quad_total quad_exact a b c

pub quad_alone : (a : Option Statement) → lesser quad_cmp a None ≡ a
quad_alone None = refl
quad_alone (Some q) = refl

-- the quads of a delta above the place, and of one below it
pub quads_at : (from : ℕ) (it : LoggedDelta) → nat_lt from it.place ≡ true → quads_above from (it ∷ []) ≡ named_quads it.changes
quads_at from it e = ap (λ b. flat_map (λ (d : LoggedDelta). named_quads d.changes) (cond b (it ∷ []) [])) e ∙ append-nil (named_quads it.changes)

pub no_quads : (from : ℕ) (it : LoggedDelta) → nat_lt from it.place ≡ false → quads_above from (it ∷ []) ≡ []
no_quads from it e = ap (λ b. flat_map (λ (d : LoggedDelta). named_quads d.changes) (cond b (it ∷ []) [])) e

pub least_at : (from : ℕ) (patterns : List Pattern) (it : LoggedDelta) → nat_lt from it.place ≡ true → find (one_matches patterns) (named_quads it.changes) ≡ least_observed patterns (quads_above from (it ∷ []))
least_at from patterns it e =
    sym (ap (least_observed patterns) (quads_at from it e) ∙ least_kept quad_total quad_exact (one_matches patterns) (named_quads it.changes) (sorted_set-sorted quad_total quad_exact (filter_map named it.changes)))

pub least_below : (from : ℕ) (patterns : List Pattern) (it : LoggedDelta) → nat_lt from it.place ≡ false → None ≡ least_observed patterns (quads_above from (it ∷ []))
least_below from patterns it e = sym (ap (least_observed patterns) (no_quads from it e))

-- the quads of one delta more
quads_next : (from : ℕ) (it : LoggedDelta) (others : List LoggedDelta) → quads_above from (it ∷ others) ≡ quads_above from (it ∷ []) ++ quads_above from others
quads_next from it others = at (nat_lt from it.place)
  where
    at : (b : Bool) → flat_map (λ (d : LoggedDelta). named_quads d.changes) (cond b (it ∷ filter (λ d. nat_lt from d.place) others) (filter (λ d. nat_lt from d.place) others)) ≡ flat_map (λ (d : LoggedDelta). named_quads d.changes) (cond b (it ∷ []) []) ++ quads_above from others
    at true = ap (λ l. l ++ quads_above from others) (sym (append-nil (named_quads it.changes)))
    at false = refl

pub least_next : (from : ℕ) (patterns : List Pattern) (it : LoggedDelta) (others : List LoggedDelta)
    → least_observed patterns (quads_above from (it ∷ others)) ≡ lesser quad_cmp (least_observed patterns (quads_above from (it ∷ []))) (least_observed patterns (quads_above from others))
least_next from patterns it others =
    let p = one_matches patterns in
    ap (least_observed patterns) (quads_next from it others)
    ∙ ap least (filter-append p (quads_above from (it ∷ [])) (quads_above from others))
    ∙ least_of_both quad_total quad_exact (filter p (quads_above from (it ∷ []))) (filter p (quads_above from others))

-- where no delta is left, what was found is all
pub least_done : (from : ℕ) (patterns : List Pattern) (found : Option Statement) (left : List LoggedDelta) → length left ≡ 0
    → found ≡ lesser quad_cmp found (least_observed patterns (quads_above from left))
least_done from patterns found [] e = sym (quad_alone found)
least_done from patterns found (it ∷ others) e = absurd (omega arith)

-- the least quad that is observed, with the first pattern that matches it
pub clash_found : (from : ℕ) (kept : List LoggedDelta) (patterns : List Pattern) (q : Statement) (p : Pattern) → Some q ≡ least_observed patterns (quads_above from kept)
    → Some p ≡ find (λ p. matches p q) patterns → Some (p, q) ≡ clash_above from kept patterns
clash_found from kept patterns q p e f = ap (option_map (λ p. (p, q))) f ∙ ap (with_pattern patterns) e
