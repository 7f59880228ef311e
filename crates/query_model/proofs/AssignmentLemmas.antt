-- How often a row stands among the assignments of terms to unknowns.
use Rattle.std.proofs.Common.{◌≡◌, ℕ, ◌+◌, Bool, true, false, cond, ◌&&◌, ◌||◌, List, [], ◌∷◌, map, flat_map, Option, Some, None, refl, ap, ◌∙◌, arith}
use Rattle.std.specs.List.{IsDistinct}
use Rattle.std.specs.Ordering.{eq_by_cmp, is_eq, ordering_then}
use Rattle.std.specs.declared.cmp.Ordering.{Ordering}
use Rattle.std.specs.declared.cmp.Ordering.TheVariants.{Less, Equal, Greater}
use Rattle.std.proofs.lemmas.Map.Keys.{IsDistinct-head, IsDistinct-tail}
use Rattle.rdf_term.specs.declared.term.Term.{Term}
use Rattle.rdf_term.specs.Order.{term_cmp, row_cmp}
use Rattle.rdf_term.specs.OrderLaws.{term_exact}
use Rattle.rdf_term.proofs.SetLemmas.{has}
use Rattle.query_model.specs.declared.query.Slot.{Slot}
use Rattle.query_model.specs.Solutions.{assignments}
use Rattle.query_model.proofs.CountLemmas.{count, count-append, count-map, count-none}
use Rattle.query_model.proofs.ElementLemmas.{none_passes}

-- a place is given one of the terms
abbrev pub is_known : List Term → Option Term → Bool
is_known terms None = false
is_known terms (Some t) = has term_cmp terms t

-- a row gives each of the unknowns one of the terms
abbrev pub fits : List Slot → List Term → List (Option Term) → Bool
fits [] terms [] = true
fits [] terms (value ∷ row) = false
fits (name ∷ names) terms [] = false
fits (name ∷ names) terms (value ∷ row) = is_known terms value && fits names terms row

-- a tie, by its test
pub Equal_of : (o : Ordering) → is_eq o ≡ true → o ≡ Equal
Equal_of Less e = cc
Equal_of Equal e = refl
Equal_of Greater e = cc

-- ties of a comparison by two keys, of which the first is the same for all
count-then : {X : Type 0} (o : Ordering) (next : X → Ordering) (xs : List X)
    → count (λ x. is_eq (ordering_then o (next x))) xs ≡ cond (is_eq o) (count (λ x. is_eq (next x)) xs) 0
count-then Less next xs = count-none (λ x. false) xs (λ x. refl)
count-then Equal next xs = refl
count-then Greater next xs = count-none (λ x. false) xs (λ x. refl)

-- the counts of two tests that don't both pass
either : (a b : Bool) (n : ℕ) → (a ≡ true → b ≡ false) → cond a n 0 + cond b n 0 ≡ cond (a || b) n 0
either true true n apart = let clash : true ≡ false = apart refl in cc
either true false n apart = omega arith
either false b n apart = omega arith

-- rows that begin with this term
count-here : (t u : Term) (row : List (Option Term)) (rows : List (List (Option Term)))
    → count (eq_by_cmp row_cmp (Some t ∷ row)) (map (λ r. Some u ∷ r) rows) ≡ cond (is_eq (term_cmp t u)) (count (eq_by_cmp row_cmp row) rows) 0
count-here t u row rows = count-map (eq_by_cmp row_cmp (Some t ∷ row)) (λ r. Some u ∷ r) rows ∙ count-then (term_cmp t u) (row_cmp row) rows

-- the first of distinct terms is none of the others
not_later : (t u : Term) (us : List Term) → IsDistinct (eq_by_cmp term_cmp) (u ∷ us) → is_eq (term_cmp t u) ≡ true → has term_cmp us t ≡ false
not_later t u us apart e =
    let same : t ≡ u = term_exact t u (Equal_of (term_cmp t u) e) in
    ap (has term_cmp us) same ∙ none_passes (eq_by_cmp term_cmp u) us (IsDistinct-head (eq_by_cmp term_cmp) u us apart)

-- rows that begin with one of distinct terms
count-first : (t : Term) (row : List (Option Term)) (rows : List (List (Option Term))) (terms : List Term) → IsDistinct (eq_by_cmp term_cmp) terms
    → count (eq_by_cmp row_cmp (Some t ∷ row)) (flat_map (λ u. map (λ r. Some u ∷ r) rows) terms)
    ≡ cond (has term_cmp terms t) (count (eq_by_cmp row_cmp row) rows) 0
count-first t row rows [] apart = refl
count-first t row rows (u ∷ us) apart =
    let rest = count-first t row rows us (IsDistinct-tail (eq_by_cmp term_cmp) u us apart) in
    count-append (eq_by_cmp row_cmp (Some t ∷ row)) (map (λ r. Some u ∷ r) rows) (flat_map (λ v. map (λ r. Some v ∷ r) rows) us)
    ∙ (λ i. count-here t u row rows i + rest i)
    ∙ either (is_eq (term_cmp t u)) (has term_cmp us t) (count (eq_by_cmp row_cmp row) rows) (not_later t u us apart)

-- no row among these ties with one that begins otherwise
count-other : (row : List (Option Term)) → ((u : Term) (r : List (Option Term)) → eq_by_cmp row_cmp row (Some u ∷ r) ≡ false)
    → (rows : List (List (Option Term))) (terms : List Term) → count (eq_by_cmp row_cmp row) (flat_map (λ u. map (λ r. Some u ∷ r) rows) terms) ≡ 0
count-other row fails rows [] = refl
count-other row fails rows (u ∷ us) =
    count-append (eq_by_cmp row_cmp row) (map (λ r. Some u ∷ r) rows) (flat_map (λ v. map (λ r. Some v ∷ r) rows) us)
    ∙ (λ i. (count-map (eq_by_cmp row_cmp row) (λ r. Some u ∷ r) rows ∙ count-none (λ r. eq_by_cmp row_cmp row (Some u ∷ r)) rows (fails u)) i
    + count-other row fails rows us i)

-- two tests, one after the other
one_and : (a b : Bool) (m n : ℕ) → cond a (cond b m n) n ≡ cond (a && b) m n
one_and true b m n = refl
one_and false b m n = refl

-- a row is one of the assignments once where it fits, and else not at all
pub count-assignments : (names : List Slot) (terms : List Term) → IsDistinct (eq_by_cmp term_cmp) terms → (row : List (Option Term))
    → count (eq_by_cmp row_cmp row) (assignments names terms) ≡ cond (fits names terms row) 1 0
count-assignments [] terms apart [] = refl
count-assignments [] terms apart (value ∷ row) = refl
count-assignments (name ∷ names) terms apart [] = count-other [] (λ u r. refl) (assignments names terms) terms
count-assignments (name ∷ names) terms apart (None ∷ row) = count-other (None ∷ row) (λ u r. refl) (assignments names terms) terms
count-assignments (name ∷ names) terms apart (Some t ∷ row) = count-first t row (assignments names terms) terms apart
    ∙ ap (λ n. cond (has term_cmp terms t) n 0) (count-assignments names terms apart row)
    ∙ one_and (has term_cmp terms t) (fits names terms row) 1 0
