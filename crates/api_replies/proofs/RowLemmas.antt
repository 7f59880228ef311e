-- The rows of what a SELECT finds have one place for each variable.
use Rattle.std.proofs.Common.{◌≡◌, ℕ, Bool, true, false, List, [], ◌∷◌, map, length, drop, fold, Option, Some, None, if◌then◌else◌}
use Rattle.std.specs.List.{All, AllByRecursion}
use Rattle.std.specs.Ordering.{match_ordering}
use Rattle.std.specs.BTreeSet.{insert_key}
use Rattle.std.specs.declared.cmp.Ordering.{Ordering}
use Rattle.std.specs.declared.cmp.Ordering.TheVariants.{Less, Equal, Greater}
use Rattle.std.proofs.lemmas.List.{length-map}
use Rattle.std.proofs.lemmas.List.Elements.{All-drop, All-from_recursion, All-take}
use Rattle.rdf_term.specs.declared.term.Term.{Term}
use Rattle.rdf_term.specs.Statement.{Statement}
use Rattle.rdf_term.specs.Order.{row_cmp}
use Rattle.rdf_term.specs.Sets.{insert_item, rows_in_order, sorted_list, sorted_set}
use Rattle.query_model.specs.declared.query.Slot.TheVariants.{Var}
use Rattle.query_model.specs.declared.query.TriplePattern.{TriplePattern}
use Rattle.query_model.specs.declared.query.Cut.{Cut}
use Rattle.query_model.specs.Unknowns.{unknowns, value_of}
use Rattle.query_model.specs.Solutions.{solutions}
use Rattle.query_model.specs.Found.{cut_rows, limited, projection, selected}

each-image : {X Y : Type 0} (Q : Y → Type 0) (f : X → Y) → ((x : X) → Q (f x)) → (xs : List X) → AllByRecursion Q (map f xs)
each-image Q f h [] = tt
each-image Q f h (x ∷ xs) = (h x, each-image Q f h xs)

module _ {K : Type 0} (P : K → Type 0) (R : K → K → Ordering) where
  each-inserted : (xs : List K) (k : K) → AllByRecursion P xs → P k → AllByRecursion P (insert_key R xs k)
  each-inserted [] k a p = (p, tt)
  each-inserted (x ∷ xs) k a p = at (R k x) (each-inserted xs k a.1 p)
    where
      at : (r : Ordering) → AllByRecursion P (insert_key R xs k) → AllByRecursion P (match_ordering r (k ∷ x ∷ xs) (x ∷ xs) (x ∷ insert_key R xs k))
      at Less rest = (p, a)
      at Equal rest = a
      at Greater rest = (a.0, rest)

  each-set_from : (acc xs : List K) → AllByRecursion P acc → AllByRecursion P xs → AllByRecursion P (fold (λ s x. insert_key R s x) acc xs)
  each-set_from acc [] a b = a
  each-set_from acc (x ∷ xs) a b = each-set_from (insert_key R acc x) xs (each-inserted acc x a b.0) b.1

  each-set : (xs : List K) → AllByRecursion P xs → AllByRecursion P (sorted_set R xs)
  each-set xs a = each-set_from [] xs tt a

  each-put : (xs : List K) (k : K) → AllByRecursion P xs → P k → AllByRecursion P (insert_item R xs k)
  each-put [] k a p = (p, tt)
  each-put (x ∷ xs) k a p = at (R k x) (each-put xs k a.1 p)
    where
      at : (r : Ordering) → AllByRecursion P (insert_item R xs k) → AllByRecursion P (match_ordering r (k ∷ x ∷ xs) (k ∷ x ∷ xs) (x ∷ insert_item R xs k))
      at Less rest = (p, a)
      at Equal rest = (p, a)
      at Greater rest = (a.0, rest)

  each-list_from : (acc xs : List K) → AllByRecursion P acc → AllByRecursion P xs → AllByRecursion P (fold (λ s x. insert_item R s x) acc xs)
  each-list_from acc [] a b = a
  each-list_from acc (x ∷ xs) a b = each-list_from (insert_item R acc x) xs (each-put acc x a b.0) b.1

  each-list : (xs : List K) → AllByRecursion P xs → AllByRecursion P (sorted_list R xs)
  each-list xs a = each-list_from [] xs tt a

-- a place for each variable
abbrev pub HasPlaces : List (List ℕ) → List (Option Term) → Type 0
HasPlaces vars row = length row ≡ length vars

selected_long : (distinct : Bool) (vars : List (List ℕ)) (group : List TriplePattern) (views : List (List Statement))
    → All (HasPlaces vars) (selected distinct vars group views)
unfolding selected
selected_long distinct vars group views = at distinct
  where
    each : AllByRecursion (HasPlaces vars) (map (projection (unknowns group) vars) (solutions group views))
    each = each-image (HasPlaces vars) (projection (unknowns group) vars)
        (λ row. length-map vars (λ var. value_of (unknowns group) row (Var var))) (solutions group views)

    at : (b : Bool) → All (HasPlaces vars) (if b then sorted_set row_cmp (map (projection (unknowns group) vars) (solutions group views)) else rows_in_order (map (projection (unknowns group) vars) (solutions group views)))
    at true = All-from_recursion (HasPlaces vars) _ (each-set (HasPlaces vars) row_cmp _ each)
    at false = All-from_recursion (HasPlaces vars) _ (each-list (HasPlaces vars) row_cmp _ each)

pub rows_long : (cut : Cut) (distinct : Bool) (vars : List (List ℕ)) (group : List TriplePattern) (views : List (List Statement))
    → All (HasPlaces vars) (cut_rows cut (selected distinct vars group views))
rows_long cut distinct vars group views = at cut.limit
  where
    all : All (HasPlaces vars) (drop cut.offset (selected distinct vars group views))
    all = All-drop (HasPlaces vars) cut.offset (selected distinct vars group views) (selected_long distinct vars group views)

    at : (limit : Option ℕ) → All (HasPlaces vars) (limited limit (drop cut.offset (selected distinct vars group views)))
    at None = all
    at (Some n) = All-take (HasPlaces vars) n (drop cut.offset (selected distinct vars group views)) all
