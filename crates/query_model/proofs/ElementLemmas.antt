-- What holds of each item of a list, by recursion.
use Rattle.std.proofs.Common.{◌≡◌, ℕ, zero, suc, Bool, true, false, ◌&&◌, ◌||◌, List, [], ◌∷◌, ◌++◌, flat_map, slice_get, refl, subst}
use Rattle.std.specs.Prelude.{unwrap_or}
use Rattle.std.specs.List.{AllByRecursion, list_any}

-- by cases on a test
pub by_truth : {P : Type 0} (b : Bool) → (b ≡ true → P) → (b ≡ false → P) → P
by_truth true passed failed = passed refl
by_truth false passed failed = failed refl

-- both parts of a conjunction hold
pub both : (a b : Bool) → (a && b) ≡ true → (a ≡ true) × (b ≡ true)
both true b e = (refl, e)
both false b e = cc

-- neither part of a disjunction holds
pub neither : (a b : Bool) → (a || b) ≡ false → (a ≡ false) × (b ≡ false)
neither true b e = cc
neither false b e = (refl, e)

-- of two lists joined
pub each-append : {X : Type 0} (P : X → Type 0) (xs ys : List X) → AllByRecursion P xs → AllByRecursion P ys → AllByRecursion P (xs ++ ys)
each-append P [] ys a b = b
each-append P (x ∷ xs) ys a b = (a.0, each-append P xs ys a.1 b)

-- of the first of two lists joined
pub each-front : {X : Type 0} (P : X → Type 0) (xs ys : List X) → AllByRecursion P (xs ++ ys) → AllByRecursion P xs
each-front P [] ys a = tt
each-front P (x ∷ xs) ys a = (a.0, each-front P xs ys a.1)

-- of the second of two lists joined
pub each-back : {X : Type 0} (P : X → Type 0) (xs ys : List X) → AllByRecursion P (xs ++ ys) → AllByRecursion P ys
each-back P [] ys a = a
each-back P (x ∷ xs) ys a = each-back P xs ys a.1

-- of all the items of lists joined end to end
pub each-flat_map : {X Y : Type 0} (P : Y → Type 0) (f : X → List Y) → ((x : X) → AllByRecursion P (f x)) → (xs : List X) → AllByRecursion P (flat_map f xs)
each-flat_map P f a [] = tt
each-flat_map P f a (x ∷ xs) = each-append P (f x) (flat_map f xs) (a x) (each-flat_map P f a xs)

-- of each of the lists that are joined end to end
pub each-piece : {X Y : Type 0} (P : Y → Type 0) (f : X → List Y) (xs : List X) → AllByRecursion P (flat_map f xs) → AllByRecursion (λ x. AllByRecursion P (f x)) xs
each-piece P f [] a = tt
each-piece P f (x ∷ xs) a = (each-front P (f x) (flat_map f xs) a, each-piece P f xs (each-back P (f x) (flat_map f xs) a))

-- of the item at a place, or of what stands for it past the end
pub each-at : {X : Type 0} (P : X → Type 0) (default : X) → P default → (xs : List X) (n : ℕ) → AllByRecursion P xs → P (unwrap_or (slice_get xs n) default)
each-at P default p [] n a = p
each-at P default p (x ∷ xs) zero a = a.0
each-at P default p (x ∷ xs) (suc n) a = each-at P default p xs n a.1

-- an item that passes, with what holds of each item
pub some_passes : {X R : Type 0} (P : X → Type 0) (test : X → Bool) (xs : List X) → list_any test xs ≡ true → AllByRecursion P xs
    → ((x : X) → test x ≡ true → P x → R) → R
some_passes P test [] e a found = cc
some_passes P test (x ∷ xs) e a found = by_truth (test x)
    (λ p. found x p a.0)
    (λ f. some_passes P test xs (subst (λ b. (b || list_any test xs) ≡ true) f e) a.1 found)

-- no item passes a test that each of them fails
pub none_passes : {X : Type 0} (test : X → Bool) (xs : List X) → AllByRecursion (λ x. test x ≡ false) xs → list_any test xs ≡ false
none_passes test [] a = refl
none_passes test (x ∷ xs) a = λ i. a.0 i || none_passes test xs a.1 i
