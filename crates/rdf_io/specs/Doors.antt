-- What a step of a door does to what the door tells of its connections.
use Rattle.std.specs.Prelude.{◌≡◌, ℕ, Bool, true, List, [], ◌∷◌, ◌++◌, Option, Some, Result, IfOk, IfSome, nat_lt, if◌then◌else◌}
use Rattle.rdf_io.specs.Causes.{one_more}

-- a connection that is told before it is given
pub record Link : Type 0 where
  -- the bytes that its source has left
  pub bytes : List ℕ
  -- its source is told never to fail
  pub sound : Bool

-- a link was given, and it is so
abbrev pub OnLink : {A E : Type 0} → Result (Option A) E → (A → Type 0) → Type 0
OnLink result P = IfOk result (λ o. IfSome o P)

-- the source that was given is that of the first link told, and the others are told from then on
pub record IsFirst (told : List Link) (told' : Option (List Link)) (left : Option (List ℕ)) (sound : Type 0) : Type 0 where
  pub first : Link
  pub rest : List Link
  pub links : told ≡ first ∷ rest
  pub still : told' ≡ Some rest
  -- the bytes that the source has left
  pub bytes : left ≡ Some first.bytes
  -- what makes the source one that never fails
  pub never : first.sound ≡ true → sound

-- links are given in the order in which they are told
abbrev pub GivesFirst : Option (List Link) → Option (List Link) → Option (List ℕ) → Type 0 → Type 0
GivesFirst links links' left sound = (told : List Link) → links ≡ Some told → IsFirst told links' left sound

-- where it is told what the sinks handed back took, the sink that was given tells that it took nothing yet
abbrev pub StartsEmpty : Option (List (List ℕ)) → Option (List ℕ) → Type 0
StartsEmpty backs taken = (told : List (List ℕ)) → backs ≡ Some told → taken ≡ Some []

-- what a sink handed back took is told behind what the earlier ones took
abbrev pub HandsBack : Option (List (List ℕ)) → Option (List (List ℕ)) → Option (List ℕ) → Type 0
HandsBack backs backs' taken = (told : List (List ℕ)) (bytes : List ℕ) → backs ≡ Some told → taken ≡ Some bytes → backs' ≡ Some (told ++ bytes ∷ [])

-- the count of the broken ones after one with so many faults
abbrev pub with_broken : ℕ → ℕ → ℕ
with_broken faults count = if nat_lt 0 faults then one_more count else count
