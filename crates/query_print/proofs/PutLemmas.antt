-- One append after another.
use Rattle.std.proofs.Common.{◌≡◌, ℕ, List, [], ◌∷◌, ◌++◌, Ok, Err, Result, ap, ◌∙◌, sym, append_assoc, codes}
use Rattle.std.specs.Result.{OnOk}
use Rattle.std.specs.Str.{chars}
use Rattle.std.proofs.lemmas.List.Concat.{flat_map-append}
use Rattle.query_print.specs.Printed.{spaced}

pub both_put : {mid new : List ℕ} (old a b : List ℕ) → mid ≡ old ++ a → new ≡ mid ++ b → new ≡ old ++ (a ++ b)
both_put old a b h k = k ∙ ap (λ v. v ++ b) h ∙ append_assoc old a b

-- what was put, in another form
pub put_as : {new a : List ℕ} (old b : List ℕ) → a ≡ b → new ≡ old ++ a → new ≡ old ++ b
put_as old b e h = h ∙ ap (λ v. old ++ v) e

on_ok : {E P Q : Type 0} (r : Result (Unit {0}) E) → (P → Q) → OnOk r P → OnOk r Q
on_ok (Ok u) f h = f h
on_ok (Err e) f h = tt

-- the last append, after which the whole was put
pub put_last : {E : Type 0} {mid whole : List ℕ} (r : Result (Unit {0}) E) (old new a b : List ℕ) → mid ≡ old ++ a → a ++ b ≡ whole
    → OnOk r (new ≡ mid ++ b) → OnOk r (new ≡ old ++ whole)
put_last {E} {mid} {whole} r old new a b h e k = on_ok r (λ (x : new ≡ mid ++ b). put_as old whole e (both_put old a b h x)) k

-- a word of its own
pub put_one : {new : List ℕ} (old w : List ℕ) → chars w ≡ w → new ≡ old ++ spaced (chars w ∷ []) → new ≡ old ++ spaced (w ∷ [])
put_one old w e h = put_as old (spaced (w ∷ [])) (ap (λ v. spaced (v ∷ [])) e) h

pub last_one : {E : Type 0} (r : Result (Unit {0}) E) (old new w : List ℕ) → chars w ≡ w → OnOk r (new ≡ old ++ spaced (chars w ∷ []))
    → OnOk r (new ≡ old ++ spaced (w ∷ []))
last_one r old new w e h = on_ok r (λ (x : new ≡ old ++ spaced (chars w ∷ [])). put_one old w e x) h

pub spaced-append : (v w : List (List ℕ)) → spaced v ++ spaced w ≡ spaced (v ++ w)
spaced-append v w = sym (flat_map-append (λ word. codes " " ++ word) v w)

-- words after words
pub put_more : {mid new : List ℕ} (old : List ℕ) (v w : List (List ℕ)) → mid ≡ old ++ spaced v → new ≡ mid ++ spaced w → new ≡ old ++ spaced (v ++ w)
put_more old v w h k = put_as old (spaced (v ++ w)) (spaced-append v w) (both_put old (spaced v) (spaced w) h k)

pub last_more : {E : Type 0} {mid : List ℕ} (r : Result (Unit {0}) E) (old new : List ℕ) (v w : List (List ℕ)) → mid ≡ old ++ spaced v
    → OnOk r (new ≡ mid ++ spaced w) → OnOk r (new ≡ old ++ spaced (v ++ w))
last_more r old new v w h k = put_last r old new (spaced v) (spaced w) h (spaced-append v w) k
