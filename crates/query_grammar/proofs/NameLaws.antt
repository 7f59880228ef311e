-- A set of names, and the list of these names in another order.
use Rattle.std.proofs.Common.{◌≡◌, ℕ, List, [], ◌∷◌, ◌++◌, Bool, true, false, ◌||◌, cond, refl, ap, ◌∙◌, sym, take, length, ◌<◌, ◌+◌, get_or}
use Rattle.std.specs.List.{Contains}
use Rattle.std.specs.Ordering.{eq_by_cmp}
use Rattle.std.proofs.lemmas.Cmp.{eq_by_cmp_equiv}
use Rattle.std.proofs.lemmas.List.{take_more}
use Rattle.std.proofs.lemmas.List.Folds.{list_any-append}
use Rattle.std.proofs.lemmas.List.Sums.{fold-append}
use Rattle.std.proofs.lemmas.Map.Views.{list_any-from_Contains}
use Rattle.rdf_term.specs.TextOrder.{text_cmp, text_total}
use Rattle.query_model.specs.declared.query.TriplePattern.{TriplePattern}
use Rattle.query_grammar.specs.Names.{is_among, standing, with_pattern}

last : (a b : Bool) → (a || (b || false)) ≡ cond b true a
last true true = refl
last true false = refl
last false true = refl
last false false = refl

-- one name more, in the list and in the set
pub among_more : (names : List (List ℕ)) (known name q : List ℕ) (before after : Bool) → known ≡ name → before ≡ is_among names q
    → after ≡ cond (eq_by_cmp text_cmp known q) true before → after ≡ is_among (names ++ name ∷ []) q
among_more names known name q before after k e f =
    f ∙ ap (λ n. cond (eq_by_cmp text_cmp n q) true before) k
    ∙ ap (cond (eq_by_cmp text_cmp name q) true) e
    ∙ ap (λ b. cond b true (is_among names q)) ((eq_by_cmp_equiv text_total).symm name q)
    ∙ sym (last (is_among names q) (eq_by_cmp text_cmp q name))
    ∙ sym (list_any-append (eq_by_cmp text_cmp q) names (name ∷ []))

pub not_among : (names : List (List ℕ)) (name : List ℕ) → is_among names name ≡ false → Contains names name → ⊥
not_among names name e h = let k = list_any-from_Contains (eq_by_cmp_equiv text_total) name names h in cc

pub standing_more : (xs : List TriplePattern) (i : ℕ) (d : TriplePattern) → i < length xs → standing (take (i + 1) xs) ≡ with_pattern (standing (take i xs)) (get_or xs i d)
unfolding standing
standing_more xs i d h = ap standing (take_more xs i d h) ∙ fold-append with_pattern [] (take i xs) (get_or xs i d ∷ [])
