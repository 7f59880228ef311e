-- Lists with another last item.
use Rattle.std.proofs.Common.{◌≡◌, refl, ◌∙◌, ap, List, [], ◌∷◌, ◌++◌}
use Rattle.query_model.specs.declared.query.TriplePattern.{TriplePattern}
use Rattle.query_grammar.specs.Built.{change_last}

pub change_last_snoc : (f : TriplePattern → TriplePattern) (xs : List TriplePattern) (x : TriplePattern) → change_last f (xs ++ x ∷ []) ≡ xs ++ f x ∷ []
unfolding change_last
change_last_snoc f [] x = refl
change_last_snoc f (y ∷ []) x = refl
change_last_snoc f (y ∷ z ∷ zs) x = ap (λ l. y ∷ l) (change_last_snoc f (z ∷ zs) x)

pub last_changed : (f : TriplePattern → TriplePattern) (whole front : List TriplePattern) (x y : TriplePattern) → whole ≡ front ++ x ∷ [] → f x ≡ y
    → change_last f whole ≡ front ++ y ∷ []
last_changed f whole front x y e h = ap (change_last f) e ∙ change_last_snoc f front x ∙ ap (λ v. front ++ v ∷ []) h
