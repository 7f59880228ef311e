-- The unknowns of patterns are distinct, and a row gives each of them the value at its place.
use Rattle.std.proofs.Common.{◌≡◌, ℕ, suc, Bool, true, false, cond, List, [], ◌∷◌, ◌++◌, map, fold, flat_map, length, Option, refl, ap, ◌∙◌, arith}
use Rattle.std.specs.List.{AllByRecursion, list_any}
use Rattle.std.specs.Ordering.{is_eq}
use Rattle.std.proofs.lemmas.Cmp.{tied_itself}
use Rattle.rdf_term.specs.declared.term.Term.{Term}
use Rattle.rdf_term.specs.TextOrder.{text_total}
use Rattle.query_model.specs.declared.query.Slot.{Slot}
use Rattle.query_model.specs.declared.query.Slot.TheVariants.{Var, Blank, Fixed}
use Rattle.query_model.specs.declared.query.Scope.{Scope}
use Rattle.query_model.specs.declared.query.Scope.TheVariants as scope
use Rattle.query_model.specs.declared.query.TriplePattern.{TriplePattern}
use Rattle.query_model.specs.Unknowns.{is_same, unknown_in, scope_unknown, standing_in, with_unknown, unknowns, value_at}
use Rattle.query_model.proofs.ElementLemmas.{neither, each-append, each-flat_map}

-- each is one with itself, and no later one is one with an earlier one
abbrev pub Apart : List Slot → Type 0
Apart [] = Unit {0}
Apart (x ∷ xs) = (is_same x x ≡ true) × (AllByRecursion (λ y. is_same y x ≡ false) xs × Apart xs)

-- one more that is one with none of these
apart-push : (names : List Slot) (x : Slot) → Apart names → is_same x x ≡ true → list_any (is_same x) names ≡ false → Apart (names ++ x ∷ [])
apart-push [] x a e new = (e, (tt, tt))
apart-push (name ∷ names) x a e new =
    let parts = neither (is_same x name) (list_any (is_same x) names) new in
    (a.0, (each-append (λ y. is_same y name ≡ false) names (x ∷ []) a.1.0 (parts.0, tt), apart-push names x a.1.1 e parts.1))

-- one more, unless it is there
apart-with : (names : List Slot) (x : Slot) → Apart names → is_same x x ≡ true → Apart (with_unknown names x)
apart-with names x a e = at (list_any (is_same x) names) refl
  where
    at : (b : Bool) → list_any (is_same x) names ≡ b → Apart (cond b names (names ++ x ∷ []))
    at true h = a
    at false h = apart-push names x a e h

-- what holds of these and of one more
each-with : (P : Slot → Type 0) (names : List Slot) (x : Slot) → AllByRecursion P names → P x → AllByRecursion P (with_unknown names x)
each-with P names x a p = at (list_any (is_same x) names)
  where
    at : (b : Bool) → AllByRecursion P (cond b names (names ++ x ∷ []))
    at true = a
    at false = each-append P names (x ∷ []) a (p, tt)

-- these and many more, each unless it is there
apart_from : (names xs : List Slot) → Apart names → AllByRecursion (λ x. is_same x x ≡ true) xs → Apart (fold with_unknown names xs)
apart_from names [] a e = a
apart_from names (x ∷ xs) a e = apart_from (with_unknown names x) xs (apart-with names x a e.0) e.1

-- what holds of these and of many more
each_from : (P : Slot → Type 0) (names xs : List Slot) → AllByRecursion P names → AllByRecursion P xs → AllByRecursion P (fold with_unknown names xs)
each_from P names [] a b = a
each_from P names (x ∷ xs) a b = each_from P (with_unknown names x) xs (each-with P names x a b.0) b.1

-- each unknown is one with itself

-- in a slot
same_itself : (x : Slot) → AllByRecursion (λ y. is_same y y ≡ true) (unknown_in x)
same_itself (Var x) = (ap is_eq (tied_itself text_total x), tt)
same_itself (Blank x) = (ap is_eq (tied_itself text_total x), tt)
same_itself (Fixed t) = tt

-- in a scope
same_scope : (g : Scope) → AllByRecursion (λ y. is_same y y ≡ true) (scope_unknown g)
same_scope scope.Any = tt
same_scope (scope.Graph x) = same_itself x

-- in a pattern
same_standing : (p : TriplePattern) → AllByRecursion (λ y. is_same y y ≡ true) (standing_in p)
same_standing p =
    let end = each-append (λ y. is_same y y ≡ true) (unknown_in p.p) (unknown_in p.o) (same_itself p.p) (same_itself p.o) in
    let triple = each-append (λ y. is_same y y ≡ true) (unknown_in p.s) (unknown_in p.p ++ unknown_in p.o) (same_itself p.s) end in
    each-append (λ y. is_same y y ≡ true) (scope_unknown p.g) (unknown_in p.s ++ (unknown_in p.p ++ unknown_in p.o)) (same_scope p.g) triple

-- the unknowns are distinct
pub unknowns-apart : (patterns : List TriplePattern) → Apart (unknowns patterns)
unfolding unknowns
unknowns-apart patterns = apart_from [] (flat_map standing_in patterns) tt (each-flat_map (λ x. is_same x x ≡ true) standing_in same_standing patterns)

-- what holds of all that stands in the patterns holds of each unknown
pub each-unknown : (P : Slot → Type 0) (patterns : List TriplePattern) → AllByRecursion P (flat_map standing_in patterns) → AllByRecursion P (unknowns patterns)
unfolding unknowns
each-unknown P patterns a = each_from P [] (flat_map standing_in patterns) tt a

-- the values of later unknowns stand in the rest of the row
later_values : (name : Slot) (value : Option Term) (names : List Slot) (row : List (Option Term)) (xs : List Slot) → AllByRecursion (λ x. is_same x name ≡ false) xs
    → map (value_at (name ∷ names) (value ∷ row)) xs ≡ map (value_at names row) xs
later_values name value names row [] a = refl
later_values name value names row (x ∷ xs) a = λ i. cond (a.0 i) value (value_at names row x) ∷ later_values name value names row xs a.1 i

-- one item less of both
shorter : (m n : ℕ) → suc m ≡ suc n → m ≡ n
shorter m n e = omega arith

-- a row with a place for each of distinct unknowns has their values, in their order
pub values-row : (names : List Slot) (row : List (Option Term)) → Apart names → length row ≡ length names → map (value_at names row) names ≡ row
values-row [] [] a e = refl
values-row [] (value ∷ row) a e = absurd (omega arith)
values-row (name ∷ names) [] a e = absurd (omega arith)
values-row (name ∷ names) (value ∷ row) a e = λ i. cond (a.0 i) value (value_at names row name)
    ∷ (later_values name value names row names a.1.0 ∙ values-row names row a.1.1 (shorter (length row) (length names) e)) i
