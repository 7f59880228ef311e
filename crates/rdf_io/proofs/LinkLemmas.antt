-- Lists of links, one of which is taken out of its place.
use Rattle.std.proofs.Common.{◌≡◌, ℕ, suc, List, ◌∷◌, ◌++◌, length, take, drop, append-nil, ap, subst, ◌∙◌, All, arith}
use Rattle.std.proofs.Common.{drop_of_length-le, take_all}

-- a slice that was lent whole is what the list then holds
pub slice_back : {A : Type 0} (n : ℕ) (new old : List A) → length new ≡ length old → n ≡ length old → take n (new ++ drop (length new) old) ≡ new
slice_back n new old e f =
    ap (λ z. take n (new ++ z)) (drop_of_length-le old (omega (arith, e))) ∙ ap (take n) (append-nil new) ∙ take_all n new (omega (arith, e, f))

pub all_first : {A : Type 0} (P : A → Type 0) (x : A) (xs ys : List A) → ys ≡ x ∷ xs → All P ys → P x
all_first P x xs ys e h = subst (All P) e h 0 x (omega arith)

pub all_later : {A : Type 0} (P : A → Type 0) (x : A) (xs ys : List A) → ys ≡ x ∷ xs → All P ys → All P xs
all_later P x xs ys e h = λ k d less. subst (All P) e h (suc k) d (omega (arith, less))
