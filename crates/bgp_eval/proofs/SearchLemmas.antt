-- A search keeps the first of what it finds.
use Rattle.std.proofs.Common.{◌≡◌, ℕ, zero, suc, ◌+◌, ◌≤◌, List, [], ◌∷◌, ◌++◌, Option, Some, true, nat_lt, min, refl, sym, ap, ◌∙◌, arith, length, map, take}
use Rattle.std.specs.List.{flat_map, list_any}
use Rattle.std.specs.Ordering.{eq_by_cmp}
use Rattle.std.specs.List.Sorted.{IsStrictlySortedBy}
use Rattle.std.proofs.Math.Seq.{take-append_seam}
use Rattle.std.proofs.lemmas.Bool.Decides.{nat_tests}
use Rattle.std.proofs.lemmas.List.{append_assoc, length-take, map-append}
use Rattle.rdf_term.specs.declared.term.Term.{Term}
use Rattle.rdf_term.specs.Statement.{Statement}
use Rattle.rdf_term.specs.Order.{quad_cmp}
use Rattle.rdf_term.specs.OrderLaws.{quad_exact, quad_total}
use Rattle.rdf_term.specs.Sets.{in_order}
use Rattle.rdf_term.proofs.SetLemmas.{sorted_set-is}
use Rattle.bgp_eval.specs.declared.search.Kept.{Kept}
use Rattle.bgp_eval.specs.declared.step.Step.{Step}
use Rattle.bgp_eval.specs.Kept.{kept}
use Rattle.bgp_eval.specs.Ways.{candidates, in_front, next_row, next_rows, ways}

-- a list of n items is the first n of any longer one
pub has_all : {X : Type 0} (n : ℕ) (xs ys zs : List X) → length xs ≡ n → take n (xs ++ ys) ≡ zs → xs ≡ zs
has_all n xs ys zs e h = sym (take-append_seam xs ys) ∙ ap (λ k. take k (xs ++ ys)) e ∙ h

take_twice : {X : Type 0} (n : ℕ) (xs ys : List X) → take n (take n xs ++ ys) ≡ take n (xs ++ ys)
take_twice zero xs ys = refl
take_twice (suc n) [] ys = refl
take_twice (suc n) (x ∷ xs) ys = ap (λ zs. x ∷ zs) (take_twice n xs ys)

-- the first n of what was found and of what is found next
taken : {X : Type 0} (n : ℕ) (new found here later all : List X) → new ≡ take n (found ++ here) → all ≡ here ++ later → take n (new ++ later) ≡ take n (found ++ all)
taken n new found here later all e h =
    ap (λ xs. take n (xs ++ later)) e ∙ take_twice n (found ++ here) later ∙ ap (take n) (append_assoc found here later ∙ ap (λ xs. found ++ xs) (sym h))

pub full : (m k : ℕ) → nat_lt m k ≡ true → k ≤ m + 1 → k ≡ m + 1
full m k e h = grind (arith, nat_tests)

module _ (views : List (List Statement)) (k : Kept) (row : List (Option Term)) (step : Step) (rest : List Step) where
  -- what is kept of the solutions that quads lead to
  abbrev pub led_to : List Statement → List (List (Option Term))
  led_to quads = map (kept k) (flat_map (ways views rest) (next_rows row step quads))

  -- all steps lead to what the first one's candidates lead to
  pub led_to-all : (steps : List Step) (quads : List Statement) → steps ≡ step ∷ rest → quads ≡ candidates views step row → led_to quads ≡ map (kept k) (ways views steps row)
  led_to-all steps quads e h = ap led_to h ∙ ap (λ s. map (kept k) (ways views s row)) (sym e)

  led_to-cons : (quad : Statement) (behind : List Statement) (next : Option (List (Option Term))) → next ≡ next_row row step quad behind
      → led_to (quad ∷ behind) ≡ map (kept k) (flat_map (ways views rest) (in_front next (next_rows row step behind)))
  led_to-cons quad behind next e = ap (λ n. map (kept k) (flat_map (ways views rest) (in_front n (next_rows row step behind)))) (sym e)

  -- one quad leads to a row, from which the search went on
  pub went_on : (n : ℕ) (new found : List (List (Option Term))) (quad : Statement) (behind left : List Statement) (r : List (Option Term)) → left ≡ quad ∷ behind → Some r ≡ next_row row step quad behind
      → new ≡ take n (found ++ map (kept k) (ways views rest r)) → take n (new ++ led_to behind) ≡ take n (found ++ led_to left)
  went_on n new found quad behind left r e f g =
      taken n new found (map (kept k) (ways views rest r)) (led_to behind) (led_to left) g
      (ap led_to e ∙ led_to-cons quad behind (Some r) f ∙ map-append (kept k) (ways views rest r) (flat_map (ways views rest) (next_rows row step behind)))

pub length-take_first : {X : Type 0} (n : ℕ) (xs ys : List X) → ys ≡ take n xs → length ys ≤ n
length-take_first n xs ys e = let long : length ys ≡ min n (length xs) = ap length e ∙ length-take n xs in omega arith

-- quads in order, each once, are their own set
pub already_in_order : (found quads : List Statement) → found ≡ quads → IsStrictlySortedBy quad_cmp found → found ≡ in_order quads
already_in_order found quads e sorted = sorted_set-is quad_total quad_exact found quads sorted (λ q. ap (λ xs. list_any (eq_by_cmp quad_cmp q) xs) e)
