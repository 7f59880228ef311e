-- How many items of lists that are joined pass a test.
use Rattle.std.proofs.Common.{◌≡◌, ℕ, ◌+◌, List, [], ◌∷◌, Bool, true, false, ◌&&◌, cond, refl, ap, ◌∙◌}
use Rattle.std.specs.List.{flat_map}
use Rattle.query_model.proofs.CountLemmas.{count, count-append, one_if}

-- where each x of a list makes as many that pass as a test of x and another test say, both together say how many pass in all
pub count-flat_map : {X Y : Type 0} (p : Y → Bool) (f : X → List Y) (q : X → Bool) (b : Bool) → ((x : X) → count p (f x) ≡ one_if (q x && b))
    → (xs : List X) → count p (flat_map f xs) ≡ cond b (count q xs) 0
count-flat_map p f q true h [] = refl
count-flat_map p f q false h [] = refl
count-flat_map p f q true h (x ∷ xs) =
    count-append p (f x) (flat_map f xs) ∙ (λ i. (h x ∙ ap one_if (and_true (q x))) i + count-flat_map p f q true h xs i)
  where
    and_true : (a : Bool) → (a && true) ≡ a
    and_true true = refl
    and_true false = refl
count-flat_map p f q false h (x ∷ xs) =
    count-append p (f x) (flat_map f xs) ∙ (λ i. (h x ∙ ap one_if (and_false (q x))) i + count-flat_map p f q false h xs i)
  where
    and_false : (a : Bool) → (a && false) ≡ false
    and_false true = refl
    and_false false = refl
