-- The first character of what is left of a text.
use Rattle.std.proofs.Common.{◌≡◌, ◌<◌, ◌≤◌, ◌+◌, ◌-◌, ◌∙◌, refl, sym, ap, subst, ℕ, zero, suc, arith, List, [], ◌∷◌, length, take, drop, get_or, add-one}

at_suc : (cs : List ℕ) (i c : ℕ) (rest : List ℕ) → drop i cs ≡ c ∷ rest → (i < length cs) × (c ≡ get_or cs i c) × (rest ≡ drop (suc i) cs)
at_suc [] zero c rest e = cc
at_suc [] (suc i) c rest e = cc
at_suc (x ∷ xs) zero c rest e = (omega arith, cc, cc)
at_suc (x ∷ xs) (suc i) c rest e = let w = at_suc xs i c rest e in let l = w.0 in (omega arith, w.1, w.2)

-- it is the character at its place, and the rest stands behind it
pub at_front : (cs left : List ℕ) (i c : ℕ) (rest : List ℕ) → left ≡ drop i cs → left ≡ c ∷ rest → (i < length cs) × (c ≡ get_or cs i c) × (rest ≡ drop (i + 1) cs)
at_front cs left i c rest e f = let w = at_suc cs i c rest (sym e ∙ f) in (w.0, w.1, w.2 ∙ ap (λ n. drop n cs) (sym (add-one i)))

-- the first of so many characters that are to come
pub take_front : (left rest : List ℕ) (n c : ℕ) → left ≡ c ∷ rest → 0 < n → take n left ≡ c ∷ take (n - 1) rest
take_front left rest zero c e h = absurd (omega arith)
take_front left rest (suc n) c e h = ap (take (suc n)) e ∙ ap (λ (k : ℕ). c ∷ take k rest) (omega arith)

pub drop_front : (left rest : List ℕ) (n c : ℕ) → left ≡ c ∷ rest → 0 < n → drop n left ≡ drop (n - 1) rest
drop_front left rest zero c e h = absurd (omega arith)
drop_front left rest (suc n) c e h = ap (drop (suc n)) e ∙ ap (λ (k : ℕ). drop k rest) (omega arith)

pub drop_nothing : (n : ℕ) (left : List ℕ) → left ≡ [] → drop n left ≡ left
drop_nothing zero left e = refl
drop_nothing (suc n) left e = ap (drop (suc n)) e ∙ sym e

pub take_nothing : (n : ℕ) (left : List ℕ) → left ≡ [] → take n left ≡ []
take_nothing zero left e = refl
take_nothing (suc n) left e = ap (take (suc n)) e
