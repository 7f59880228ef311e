-- How layers are merged, and how many there can be.
use Rattle.std.proofs.Common.{◌≡◌, ◌⊎◌, inl, inr, ℕ, zero, suc, ◌+◌, ◌-◌, ◌*◌, ◌/◌, ◌^◌, ◌<◌, ◌≤◌, not, List, [], ◌∷◌, ◌++◌, length, get_or, slice_set, map, take, filter, length-append, refl, sym, ap, subst, ◌∙◌, arith}
use Rattle.std.specs.List.Sorted.{IsStrictlySortedBy}
use Rattle.std.proofs.lemmas.Bool.{cases_lt}
use Rattle.std.proofs.lemmas.Nat.{pow-add}
use Rattle.std.proofs.lemmas.List.{get_or_append_left, get_or-take, get_or_push, take_all, take-append-le, length-take-le, take_more_set, map-append}
use Rattle.rdf_term.specs.Statement.{Statement}
use Rattle.rdf_term.specs.Order.{quad_cmp}
use Rattle.rdf_term.specs.Sets.{in_order}
use Rattle.change_set.specs.declared.change.Change.{Change}
use Rattle.change_set.specs.Content.{applied, is_removed, last_effect, SameChanges}
use Rattle.change_set.proofs.Contents.{applied-append, applied-same}
use Rattle.branch.specs.Layers.{layered}
use Rattle.branch.specs.Bounds.{IsHalving, IsRaised, topped}
use Rattle.branch.proofs.LayerLemmas.{layered-push, sorted-layered, in_order-sorted}

-- ---- merging

half : (n m : ℕ) → n ≤ m / 2 → 2 * n ≤ m
half n m h = omega arith

raised_on : (layers below : List (List Change)) (layer set : List Change) → layers ≡ below ++ layer ∷ [] → length set < 2 ^ 64 → length set ≤ length layer / 2
    → IsRaised layers set (length layers) set
raised_on layers below layer set e small h = record {
  within = omega arith;
  small = small;
  content = λ base. ap (λ l. applied (layered base l) set) (take_all (length layers) layers (omega arith));
  twice = λ k d f.
      let last : length below ≡ k = omega (arith, f, ap length e, length-append below (layer ∷ [])) in
      let at : get_or layers k d ≡ layer = ap (λ l. get_or l k d) e ∙ get_or_push below layer d k last in
      subst (λ (l : List Change). 2 * length set ≤ length l) (sym at) (half (length set) (length layer) h);
}

pub raised_alone : (layers : List (List Change)) (set : List Change) → length layers ≡ 0 → length set < 2 ^ 64 → IsRaised layers set 0 set
raised_alone [] set e small = record { within = omega arith; small = small; content = λ base. refl; twice = λ k d f. absurd (omega (arith, f)) }
raised_alone (l ∷ ls) set e small = absurd (omega arith)

pub raised_stays : (layers below : List (List Change)) (layer set : List Change) (n : ℕ) → layers ≡ below ++ layer ∷ [] → n ≡ length layers → length set < 2 ^ 64 → length set ≤ length layer / 2
    → IsRaised layers set n set
raised_stays layers below layer set n e f small h = subst (λ m. IsRaised layers set m set) (sym f) (raised_on layers below layer set e small h)

pub raised_merged : (layers below : List (List Change)) (layer set merged top : List Change) (n : ℕ) → layers ≡ below ++ layer ∷ [] → SameChanges merged (layer ++ set)
    → IsRaised below merged n top → IsRaised layers set n top
raised_merged layers below layer set merged top n e same r = record {
  within = let h : n ≤ length below = r.within in omega (arith, ap length e, length-append below (layer ∷ []));
  small = r.small;
  content = λ base.
      ap (λ l. applied (layered base l) top) (ap (take n) e ∙ take-append-le n below (layer ∷ []) r.within)
      ∙ r.content base
      ∙ applied-same (layered base below) merged (layer ++ set) same
      ∙ sym (applied-append (layered base below) layer set)
      ∙ ap (λ qs. applied qs set) (sym (layered-push base below layer) ∙ ap (layered base) (sym e));
  twice = λ k d f.
      let h : n ≤ length below = r.within in
      let at : get_or layers k d ≡ get_or below k d = ap (λ l. get_or l k d) e ∙ get_or_append_left below (layer ∷ []) d k (omega (arith, f)) in
      subst (λ (l : List Change). 2 * length top ≤ length l) (sym at) (r.twice k d f);
}

-- ---- the layers after a push

nothing_removed : (qs : List Statement) → filter (λ (q : Statement). not (is_removed (last_effect [] q))) qs ≡ qs
nothing_removed [] = refl
nothing_removed (q ∷ qs) = ap (λ r. q ∷ r) (nothing_removed qs)

append_nothing : {X : Type 0} (xs : List X) → xs ++ [] ≡ xs
append_nothing [] = refl
append_nothing (x ∷ xs) = ap (λ ys. x ∷ ys) (append_nothing xs)

applied-nothing : (qs : List Statement) → IsStrictlySortedBy quad_cmp qs → applied qs [] ≡ qs
applied-nothing qs s = ap in_order (append_nothing (filter (λ (q : Statement). not (is_removed (last_effect [] q))) qs) ∙ nothing_removed qs) ∙ in_order-sorted qs s

layered-topped : (base : List Statement) (layers : List (List Change)) (below : ℕ) (top : List Change) → IsStrictlySortedBy quad_cmp base → layered base (topped layers below top) ≡ applied (layered base (take below layers)) top
layered-topped base layers below [] s = sym (applied-nothing (layered base (take below layers)) (sorted-layered base (take below layers) s))
layered-topped base layers below (c ∷ cs) s = layered-push base (take below layers) (c ∷ cs)

pub layered-raised : (base : List Statement) (layers : List (List Change)) (set : List Change) (below : ℕ) (top : List Change) → IsStrictlySortedBy quad_cmp base → IsRaised layers set below top
    → layered base (topped layers below top) ≡ applied (layered base layers) set
layered-raised base layers set below top s r = layered-topped base layers below top s ∙ r.content base

pub length-topped : (layers : List (List Change)) (set : List Change) (below : ℕ) (top : List Change) → IsRaised layers set below top → length (topped layers below top) ≤ length layers + 1
length-topped layers set below [] r = let h : below ≤ length layers = r.within in omega (arith, length-take-le below layers r.within)
length-topped layers set below (c ∷ cs) r = let h : below ≤ length layers = r.within in omega (arith, length-take-le below layers r.within, length-append (take below layers) ((c ∷ cs) ∷ []))

halving-take : (layers : List (List Change)) (below : ℕ) → IsHalving layers → below ≤ length layers → IsHalving (take below layers)
halving-take layers below h l =
    let n : length (take below layers) ≡ below = length-take-le below layers l in record {
      some = λ k d b. subst (λ (x : List Change). 1 ≤ length x) (sym (get_or-take below layers k d (omega arith))) (h.some k d (omega arith));
      small = λ k d b. subst (λ (x : List Change). length x < 2 ^ 64) (sym (get_or-take below layers k d (omega arith))) (h.small k d (omega arith));
      twice = λ k d b. subst (λ (x : List Change). 2 * length x ≤ length (get_or (take below layers) k d)) (sym (get_or-take below layers (k + 1) d (omega arith)))
          (subst (λ (x : List Change). 2 * length (get_or layers (k + 1) d) ≤ length x) (sym (get_or-take below layers k d (omega arith))) (h.twice k d (omega arith)));
    }

at_end : (P : List Change → Type 0) (layers : List (List Change)) (top : List Change) (k : ℕ) (d : List Change) → k < length (layers ++ top ∷ []) → (k < length layers → P (get_or layers k d)) → P top
    → P (get_or (layers ++ top ∷ []) k d)
at_end P layers top k d b below p = by (cases_lt k (length layers))
  where
    by : (k < length layers) ⊎ (length layers ≤ k) → P (get_or (layers ++ top ∷ []) k d)
    by (inl l) = subst P (sym (get_or_append_left layers (top ∷ []) d k l)) (below l)
    by (inr l) = subst P (sym (get_or_push layers top d k (omega (arith, length-append layers (top ∷ []))))) p

-- one layer more above layers that halve
halving-push : (layers : List (List Change)) (top : List Change) → IsHalving layers → 1 ≤ length top → length top < 2 ^ 64
    → ((k : ℕ) (d : List Change) → k + 1 ≡ length layers → 2 * length top ≤ length (get_or layers k d)) → IsHalving (layers ++ top ∷ [])
halving-push layers top h s small t = record {
  some = λ k d b. at_end (λ x. 1 ≤ length x) layers top k d b (λ l. h.some k d l) s;
  small = λ k d b. at_end (λ x. length x < 2 ^ 64) layers top k d b (λ l. h.small k d l) small;
  twice = λ k d b. below k d (omega (arith, length-append layers (top ∷ [])));
}
  where
    next : (k : ℕ) (d : List Change) → k < length layers → (k + 1 < length layers) ⊎ (length layers ≤ k + 1) → 2 * length (get_or (layers ++ top ∷ []) (k + 1) d) ≤ length (get_or layers k d)
    next k d b (inl l) = subst (λ (x : List Change). 2 * length x ≤ length (get_or layers k d)) (sym (get_or_append_left layers (top ∷ []) d (k + 1) l)) (h.twice k d l)
    next k d b (inr l) = subst (λ (x : List Change). 2 * length x ≤ length (get_or layers k d)) (sym (get_or_push layers top d (k + 1) (omega arith))) (t k d (omega arith))

    below : (k : ℕ) (d : List Change) → k < length layers → 2 * length (get_or (layers ++ top ∷ []) (k + 1) d) ≤ length (get_or (layers ++ top ∷ []) k d)
    below k d b = subst (λ (x : List Change). 2 * length (get_or (layers ++ top ∷ []) (k + 1) d) ≤ length x) (sym (get_or_append_left layers (top ∷ []) d k b)) (next k d b (cases_lt (k + 1) (length layers)))

pub halving-topped : (layers : List (List Change)) (set : List Change) (below : ℕ) (top : List Change) → IsHalving layers → IsRaised layers set below top → IsHalving (topped layers below top)
halving-topped layers set below [] h r = halving-take layers below h r.within
halving-topped layers set below (c ∷ cs) h r =
    let n : length (take below layers) ≡ below = length-take-le below layers r.within in
    halving-push (take below layers) (c ∷ cs) (halving-take layers below h r.within) (omega arith) r.small
    (λ k d e. subst (λ (x : List Change). 2 * length (c ∷ cs) ≤ length x) (sym (get_or-take below layers k d (omega (arith, e, n)))) (r.twice k d (e ∙ n)))

-- ---- how many there can be

doubled : (j a b : ℕ) → 2 ^ j ≤ a → 2 * a ≤ b → 2 ^ (1 + j) ≤ b
doubled j a b h t = subst (λ n. n ≤ b) (sym (pow-add 2 1 j)) (omega arith)

power : (layers : List (List Change)) → IsHalving layers → (j k : ℕ) (d : List Change) → j + k + 1 ≡ length layers → 2 ^ j ≤ length (get_or layers k d)
power layers h zero k d e = h.some k d (omega (arith, e))
power layers h (suc j) k d e =
    let next : suc j ≡ 1 + j = omega arith in
    subst (λ n. 2 ^ n ≤ length (get_or layers k d)) (sym next)
    (doubled j (length (get_or layers (k + 1) d)) (length (get_or layers k d)) (power layers h j (k + 1) d (omega (arith, e))) (h.twice k d (omega (arith, e))))

not_both : (a b : ℕ) → a ≤ b → b < a → ⊥
not_both a b h l = omega arith

pub few : (layers : List (List Change)) → IsHalving layers → length layers ≤ 64
few layers h = by (cases_lt 64 (length layers))
  where
    by : (64 < length layers) ⊎ (length layers ≤ 64) → length layers ≤ 64
    by (inl l) = absurd (not_both (2 ^ 64) (length (get_or layers (length layers - 65) []))
        (power layers h 64 (length layers - 65) [] (omega arith)) (h.small (length layers - 65) [] (omega arith)))
    by (inr l) = l

-- ---- a set put on top, in the code's lists

module _ {X : Type 0} (f : X → List Change) where
  taken : (n : ℕ) (xs : List X) → map f (take n xs) ≡ take n (map f xs)
  taken zero xs = refl
  taken (suc n) [] = refl
  taken (suc n) (x ∷ xs) = ap (λ ys. f x ∷ ys) (taken n xs)

  some_topped : (layers : List (List Change)) (below : ℕ) (top : List Change) → (length top ≡ 0 → ⊥) → topped layers below top ≡ take below layers ++ top ∷ []
  some_topped layers below [] h = absurd (h refl)
  some_topped layers below (c ∷ cs) h = refl

  pub topped-none : (old new : List X) (below : ℕ) (top : List Change) → length top ≡ 0 → new ≡ take below old → map f new ≡ topped (map f old) below top
  topped-none old new below [] h e = ap (map f) e ∙ taken below old
  topped-none old new below (c ∷ cs) h e = absurd (omega arith)

  pub topped-replaced : (old new : List X) (below : ℕ) (top : X) → (length (f top) ≡ 0 → ⊥) → below < length old → new ≡ take (below + 1) (slice_set old below top) → map f new ≡ topped (map f old) below (f top)
  topped-replaced old new below top h l e =
      ap (map f) (e ∙ take_more_set old below top l)
      ∙ map-append f (take below old) (top ∷ [])
      ∙ ap (λ ls. ls ++ f top ∷ []) (taken below old)
      ∙ sym (some_topped (map f old) below (f top) h)

  pub topped-pushed : (old new : List X) (below : ℕ) (top : X) → (length (f top) ≡ 0 → ⊥) → length old ≤ below → new ≡ old ++ top ∷ [] → map f new ≡ topped (map f old) below (f top)
  topped-pushed old new below top h l e =
      ap (map f) e
      ∙ map-append f old (top ∷ [])
      ∙ ap (λ ls. ls ++ f top ∷ []) (ap (map f) (sym (take_all below old l)) ∙ taken below old)
      ∙ sym (some_topped (map f old) below (f top) h)
