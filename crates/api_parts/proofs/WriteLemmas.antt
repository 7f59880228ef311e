-- The items that a loop made so far, and one more.
use Rattle.std.proofs.Common.{◌≡◌, ℕ, ◌+◌, ◌<◌, List, [], ◌∷◌, ◌++◌, length, take, map, get_or, sym, ap, ◌∙◌, append_assoc}
use Rattle.std.proofs.lemmas.List.{map-append}
use Rattle.api_parts.proofs.SelectionLemmas.{take_one}

pub mapped_more : {X Y : Type 0} (f : X → Y) (old : List Y) (xs : List X) (i : ℕ) (x : X) → i < length xs → x ≡ get_or xs i x
    → (old ++ map f (take i xs)) ++ f x ∷ [] ≡ old ++ map f (take (i + 1) xs)
mapped_more f old xs i x h is =
    append_assoc old (map f (take i xs)) (f x ∷ [])
    ∙ ap (λ ys. old ++ ys) (sym (ap (map f) (take_one xs i x h is) ∙ map-append f (take i xs) (x ∷ [])))

pub twice_more : {X Y Z : Type 0} (f : Y → Z) (g : X → Y) (old : List Z) (xs : List X) (i : ℕ) (x : X) → i < length xs → x ≡ get_or xs i x
    → (old ++ map f (map g (take i xs))) ++ f (g x) ∷ [] ≡ old ++ map f (map g (take (i + 1) xs))
twice_more f g old xs i x h is =
    append_assoc old (map f (map g (take i xs))) (f (g x) ∷ [])
    ∙ ap (λ ys. old ++ ys) (sym (ap (λ ys. map f (map g ys)) (take_one xs i x h is) ∙ ap (map f) (map-append g (take i xs) (x ∷ [])) ∙ map-append f (map g (take i xs)) (g x ∷ [])))
