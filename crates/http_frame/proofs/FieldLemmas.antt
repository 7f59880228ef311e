-- The values of the fields of one name.
use Rattle.std.proofs.Common.{◌≡◌, ℕ, ◌≤◌, List, [], ◌∷◌, Bool, true, false, cond, length, map, Some, None, sym, ap, ◌∙◌, refl, arith}
use Rattle.std.specs.List.{filter, find, count_by}
use Rattle.std.proofs.lemmas.List.{length-map}
use Rattle.std.proofs.lemmas.List.Sums.{length-filter}

abbrev Part : Type 0
Part = List ℕ × List ℕ

find_none : (p : Part → Bool) (xs : List Part) → find p xs ≡ None → filter p xs ≡ []
find_none p [] e = refl
find_none p (x ∷ xs) e =
    elim (p x) as (λ t. cond t (Some x) (find p xs) ≡ None → cond t (x ∷ filter p xs) (filter p xs) ≡ [])
    [ true ↦ λ h. cc | false ↦ λ h. find_none p xs h ] e

find_some : (p : Part → Bool) (xs : List Part) (y : Part) → find p xs ≡ Some y → (rest : List Part) × (filter p xs ≡ y ∷ rest)
find_some p [] y e = cc
find_some p (x ∷ xs) y e =
    elim (p x) as (λ t. cond t (Some x) (find p xs) ≡ Some y → (rest : List Part) × (cond t (x ∷ filter p xs) (filter p xs) ≡ y ∷ rest))
    [ true ↦ λ h. (filter p xs, cc) | false ↦ λ h. find_some p xs y h ] e

none_left : (xs : List Part) → length xs ≡ 0 → xs ≡ []
none_left [] e = refl
none_left (x ∷ xs) e = absurd (omega arith)

abbrev second : Part → List ℕ
second x = x.1

pub no_values : (p : Part → Bool) (xs : List Part) → find p xs ≡ None → map second (filter p xs) ≡ []
no_values p xs e = ap (map second) (find_none p xs e)

pub one_value : (p : Part → Bool) (xs : List Part) (y : Part) → find p xs ≡ Some y → length (map second (filter p xs)) ≤ 1
    → map second (filter p xs) ≡ y.1 ∷ []
one_value p xs y e few =
    let found = find_some p xs y e in
    let size = ap length found.1 in
    let n = length-map (filter p xs) second in
    let rest = none_left found.0 (omega arith) in
    ap (map second) (found.1 ∙ ap (λ (z : List Part). y ∷ z) rest)

pub count_values : (p : Part → Bool) (xs : List Part) → count_by p xs ≡ length (map second (filter p xs))
count_values p xs = sym (length-map (filter p xs) second ∙ length-filter p xs)
