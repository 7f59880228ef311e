-- Steps of a reading, and tests by cases.
use Rattle.std.proofs.Common.{◌≡◌, ℕ, List, [], ◌∷◌, ◌++◌, ◌⊎◌, inl, inr, Bool, true, false, ◌==◌, ◌&&◌, ◌||◌, refl, ap, ◌∙◌, sym, subst, if◌then◌else◌, Option, Some, None}
use Rattle.std.proofs.lemmas.Bool.Decides.{Decides-eqb}
use Rattle.nquads_line.specs.declared.fault.LineFault.{LineFault}
use Rattle.nquads_line.specs.declared.fault.LineFault.TheVariants.{Bad, TooLong, Memory}
use Rattle.nquads_line.specs.Reading.{◌>>=◌, Fails, with_front, mark_at, after_piece}

pub bind_ok : {A B : Type 0} (r : Option A) (f : A → Option B) (y : B) → (r >>= f) ≡ Some y → (x : A) × (r ≡ Some x) × (f x ≡ Some y)
bind_ok None f y e = cc
bind_ok (Some x) f y e = (x, refl, e)

pub step : {A B : Type 0} (r : Option A) (f : A → Option B) (x : A) (y : B) → r ≡ Some x → f x ≡ Some y → (r >>= f) ≡ Some y
step None f x y e h = cc
step (Some z) f x y e h = let same : z ≡ x = cc in subst (λ w. f w ≡ Some y) (sym same) h

pub with_front_ok : (front : List ℕ) (r : Option (List ℕ × List ℕ)) (y : List ℕ × List ℕ) → with_front front r ≡ Some y
    → (x : List ℕ × List ℕ) × (r ≡ Some x) × (y ≡ (front ++ x.0, x.1))
with_front_ok front None y e = cc
with_front_ok front (Some x) y e = (x, refl, cc)

pub after_ok : (r : Option (ℕ × ℕ)) (next : ℕ → Option (List ℕ × List ℕ)) (x : List ℕ × List ℕ) → after_piece r next ≡ Some x
    → (y : ℕ × ℕ) × (r ≡ Some y) × (with_front (y.0 ∷ []) (next y.1) ≡ Some x)
after_ok None next x e = cc
after_ok (Some y) next x e = (y, refl, e)

pub chosen : {A : Type 0} (b : Bool) (x y z : A) → (if b then x else y) ≡ z → ((b ≡ true) × (x ≡ z)) ⊎ ((b ≡ false) × (y ≡ z))
chosen true x y z e = inl (refl, e)
chosen false x y z e = inr (refl, e)

pub take_then : {A : Type 0} (b : Bool) (x y : A) → b ≡ true → (if b then x else y) ≡ x
take_then true x y e = refl
take_then false x y e = cc

pub take_else : {A : Type 0} (b : Bool) (x y : A) → b ≡ false → (if b then x else y) ≡ y
take_else true x y e = cc
take_else false x y e = refl

pub both : (a b : Bool) → a ≡ true → b ≡ true → (a && b) ≡ true
both true b e h = h
both false b e h = cc

pub split : (a b : Bool) → (a && b) ≡ true → (a ≡ true) × (b ≡ true)
split true b e = (refl, e)
split false b e = cc

pub either : (a b : Bool) → (a || b) ≡ true → (a ≡ true) ⊎ (b ≡ true)
either true b e = inl refl
either false b e = inr e

pub or_left : (a b : Bool) → a ≡ true → (a || b) ≡ true
or_left true b e = refl
or_left false b e = cc

pub or_right : (a b : Bool) → b ≡ true → (a || b) ≡ true
or_right true b e = refl
or_right false b e = e

pub true_or_false : (b : Bool) → (b ≡ true) ⊎ (b ≡ false)
true_or_false true = inl refl
true_or_false false = inr refl

pub equal : (c d : ℕ) → (c == d) ≡ true → c ≡ d
equal c d e = (Decides-eqb c d).0 e

pub itself : (c : ℕ) → (c == c) ≡ true
itself c = (Decides-eqb c c).1 refl

-- a character that passes a test is none that doesn't
pub unequal : (f : ℕ → Bool) (mark c : ℕ) → f mark ≡ false → f c ≡ true → (c == mark) ≡ false
unequal f mark c m h = at (c == mark) refl
  where
    at : (b : Bool) → (c == mark) ≡ b → b ≡ false
    at true e = let s : true ≡ false = sym h ∙ ap f (equal c mark e) ∙ m in cc
    at false e = refl

pub mark_ok : (mark : ℕ) (cs rest : List ℕ) → mark_at mark cs ≡ Some rest → cs ≡ mark ∷ rest
mark_ok mark [] rest e = cc
mark_ok mark (c ∷ cs) rest e =
    elim (chosen (c == mark) _ _ _ e) [
      | inl h ↦ (let same : c ≡ mark = equal c mark h.0 in cc)
      | inr h ↦ cc
    ]

-- a fault that is Bad tells that nothing is read
pub fails_bad : {Y : Type 0} (e : LineFault) (r : Option Y) → e ≡ Bad → Fails e r → r ≡ None
fails_bad Bad r h f = f
fails_bad TooLong r h f = absurd f
fails_bad Memory r h f = cc
