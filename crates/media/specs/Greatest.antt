-- The first element of the greatest key.
use Rattle.std.specs.Prelude.{◌≡◌, ℕ, Bool, ◌&&◌, ◌<◌, ◌≤◌, nat_lt, nat_le, List, ◌∷◌, ◌++◌, Option, All}
use Rattle.std.specs.List.{find, list_all}

-- the key of x is above 0, and none is greater
abbrev pub is_greatest : {A : Type 0} → (A → ℕ) → List A → A → Bool
is_greatest key xs x = nat_lt 0 (key x) && list_all (λ y. nat_le (key y) (key x)) xs

-- the first element of the greatest key, where that is above 0
unfoldable pub first_greatest : {A : Type 0} → (A → ℕ) → List A → Option A
first_greatest key xs = find (is_greatest key xs) xs

-- the same by places: x stands between elements of smaller keys and elements of keys that aren't greater
pub record IsFirstGreatest {A : Type 0} (key : A → ℕ) (xs : List A) (x : A) : Type 0 where
  pub before : List A
  pub behind : List A
  pub place : xs ≡ before ++ x ∷ behind
  pub above_zero : 0 < key x
  pub smaller : All (λ y. key y < key x) before
  pub no_greater : All (λ y. key y ≤ key x) behind
