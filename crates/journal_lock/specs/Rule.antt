-- The rule of the lock, and what each of its steps tells.
-- Word 0 is the turn: 0 where it is free, and else 1 more than the number of the seat that has it. Word 1 is the number of entries.
use Rattle.std.specs.Prelude.{◌≡◌, ◌≢◌, ℕ, ◌+◌, ◌<◌, ◌≤◌, true, false, List, [], ◌∷◌, ◌++◌, length, map, Option, Some, None}
use Rattle.std.specs.List.{IsDistinct, list_any}
use Rattle.std.specs.Prelude.{nat_eq as eqb}
use mathlib.Core.Option.{some}
use mathlib.Core.Option as maybe
use lib.ListN.{get_elem?}
use Rattle.atomic_table.specs.Table.{State, Me, rest}
use Rattle.journal_lock.specs.declared.table.OldList.{OldList}
use Rattle.journal_lock.specs.declared.table.View.{View}

-- the log begins with what was seen
abbrev pub Begins : {E : Type 0} → List E → List E → Type 0
Begins {E} seen log = (more : List E) × (log ≡ seen ++ more)

module _ {E : Type 0} (number : E → ℕ) where
  -- no entry has this number
  abbrev pub NoneOf : ℕ → List E → Type 0
  NoneOf k [] = Unit {0}
  NoneOf k (e ∷ es) = (number e ≢ k) × NoneOf k es

  -- the log begins with what was seen, and past it there is no entry with this number
  abbrev pub HasAll : ℕ → List E → List E → Type 0
  HasAll k seen log = (more : List E) × (log ≡ seen ++ more) × NoneOf k more

  abbrev pub AllBelow : ℕ → List E → Type 0
  AllBelow n [] = Unit {0}
  AllBelow n (e ∷ es) = (number e < n) × AllBelow n es

  -- each entry has one of the numbers
  abbrev pub AllAmong : List ℕ → List E → Type 0
  AllAmong ks [] = Unit {0}
  AllAmong ks (e ∷ es) = (list_any (eqb (number e)) ks ≡ true) × AllAmong ks es

  -- each old list has all entries with its number
  abbrev pub OldsHaveAll : List (OldList E) → List E → Type 0
  OldsHaveAll [] log = Unit {0}
  OldsHaveAll (o ∷ os) log = HasAll o.number o.seen log × OldsHaveAll os log

module _ {E : Type 0} where
  -- the numbers of the old lists are of this seat
  abbrev pub OldsOf : (ℕ → ℕ) → ℕ → ℕ → List (OldList E) → Type 0
  OldsOf seat_with made id [] = Unit {0}
  OldsOf seat_with made id (o ∷ os) = ((seat_with o.number ≡ id) × (o.number < made)) × OldsOf seat_with made id os

  abbrev pub numbers : List (OldList E) → List ℕ
  numbers olds = map (λ o. o.number) olds

  abbrev pub old : ℕ → List E → OldList E
  old k seen = record { number = k; seen = seen }

module _ {E F : Type 0} where
  abbrev pub maker : F → ℕ → View E F
  maker f n = record { number = n; seen = []; fixed = Some f; live = false; holds = false; makes = true; made = 0; closes = false; olds = [] }

  abbrev pub one_more : View E F → View E F
  one_more v = record v { made = v.made + 1 }

  abbrev pub new_pass : View E F → View E F
  new_pass v = record { number = v.made; seen = []; fixed = v.fixed; live = true; holds = false; makes = false; made = 0; closes = false; olds = [] }

  -- the view with the turn, where this much more was seen
  abbrev pub with_turn : View E F → List E → View E F
  with_turn v more = record v { seen = v.seen ++ more; holds = true }

  -- the view that gave up the turn
  abbrev pub without_turn : View E F → View E F
  without_turn v = record v { holds = false }

  abbrev pub with_seen : View E F → List E → View E F
  with_seen v seen = record v { seen = seen }

  abbrev pub closer : Option F → ℕ → List E → View E F
  closer f n seen = record { number = n; seen = seen; fixed = f; live = false; holds = false; makes = false; made = 0; closes = true; olds = [] }

  -- the view that took in another's
  abbrev pub gathered : View E F → View E F → View E F
  gathered v w = record v { olds = old w.number w.seen ∷ v.olds }

  abbrev pub spent : View E F
  spent = record { number = 0; seen = []; fixed = None; live = false; holds = false; makes = false; made = 0; closes = false; olds = [] }

  -- what stays of a view that has seen the whole list
  abbrev pub witness : View E F → View E F
  witness v = record { number = v.number; seen = v.seen; fixed = v.fixed; live = false; holds = false; makes = false; made = 0; closes = false; olds = [] }

  module _ (number : E → ℕ) (f : F) (seats : ℕ) where
    -- what the rule says of one view, by the log, the turn word, the count of numbers made, the seat that makes them and the seat that has a number
    pub record Fits (log : List E) (turn made makes_at : ℕ) (seat_with : ℕ → ℕ) (id : ℕ) (v : View E F) : Type 0 where
      pub of_pass : v.live ≡ true → (seat_with v.number ≡ id) × (v.number < made) × (v.fixed ≡ Some f) × HasAll number v.number v.seen log
      pub of_turn : v.holds ≡ true → (turn ≡ v.number + 1) × (v.seen ≡ log) × (v.live ≡ true)
      pub of_maker : v.makes ≡ true → (makes_at ≡ id) × (v.made ≡ made) × (v.fixed ≡ Some f) × (v.holds ≡ false) × (v.live ≡ false)
      pub of_closer : v.closes ≡ true → (v.number ≡ seats) × (v.fixed ≡ Some f) × (v.live ≡ false) × Begins v.seen log
      pub olds_have : OldsHaveAll number v.olds log
      pub olds_of : OldsOf seat_with made id v.olds
      pub olds_differ : IsDistinct eqb (numbers v.olds)

    abbrev pub EachFits : List E → ℕ → ℕ → ℕ → (ℕ → ℕ) → List (View E F) → Type 0
    EachFits log turn made makes_at seat_with views = (id : ℕ) (v : View E F) → get_elem? views id ≡ some v → Fits log turn made makes_at seat_with id v

  -- the view of some seat's number has the turn
  abbrev pub IsNamed : ℕ → (ℕ → ℕ) → List (View E F) → Type 0
  IsNamed made seat_with views = (k : ℕ) × (v : View E F) × (k < made) × (get_elem? views (seat_with k) ≡ some v) × (v.holds ≡ true)

-- the fixed part is that of what a view was told
abbrev pub IsOf : {F G : Type 0} → (F → G) → G → Option F → Type 0
IsOf {F} of y told = (g : F) × (told ≡ Some g) × (y ≡ of g)

module _ {V E F G : Type 0} (entries : V → List E) (fixed : V → G) (of : F → G) where
  -- the value is at home, stands for the log and has the fixed part
  abbrev pub IsHome : F → List E → List (maybe.Option (Option V)) → Type 0
  IsHome f log homes = (x : V) × (homes ≡ some (Some x) ∷ []) × (entries x ≡ log) × (fixed x ≡ of f)

  module _ (number : E → ℕ) where
    pub record Kept (f : F) (seats : ℕ) (s : State (Option V) (View E F)) : Type 0 where
      pub log : List E
      pub turn : ℕ
      pub made : ℕ
      pub makes_at : ℕ
      pub seat_with : ℕ → ℕ
      pub words_are : s.words ≡ turn ∷ length log ∷ []
      pub one_slot : length s.homes ≡ 1
      pub at_home : turn ≡ 0 → IsHome f log s.homes
      pub is_named : turn ≢ 0 → IsNamed made seat_with s.views
      pub few : made ≤ seats
      pub numbered : AllBelow number made log
      pub each : EachFits number f seats log turn made makes_at seat_with s.views

    -- the turn was free and is taken, with the value
    abbrev pub Taken : Me (Option V) (View E F) → Me (Option V) (View E F) → Type 0
    Taken m m' = (x : V) × (more : List E) × (m' ≡ (with_turn m.0 more, (0, Some x) ∷ m.1)) × NoneOf number m.0.number more × (entries x ≡ m.0.seen ++ more) × IsOf of (fixed x) m.0.fixed

    abbrev pub takes : Me (Option V) (View E F) → ℕ → Me (Option V) (View E F) → Type 0
    takes m n m' = (n ≡ 0 → Taken m m') × (n ≢ 0 → m' ≡ m)

module _ {V E F : Type 0} where
  -- the number of entries that had been seen was found, and these were added
  abbrev pub counts : List E → Me (Option V) (View E F) → ℕ → Me (Option V) (View E F) → Type 0
  counts added m n m' = (n ≡ length m.0.seen) × (m' ≡ (with_seen m.0 (m.0.seen ++ added), m.1))

  abbrev pub frees : Me (Option V) (View E F) → Me (Option V) (View E F) → Type 0
  frees m m' = m' ≡ (without_turn m.0, rest m.1)

  -- a list of the length that was found was seen
  abbrev pub enters : Me (Option V) (View E F) → ℕ → Me (Option V) (View E F) → Type 0
  enters m n m' = (length m'.0.seen ≡ n) × (m'.0 ≡ closer m.0.fixed m.0.number m'.0.seen)

  -- a list of the length that was found was seen. Each old list has all entries of it with its number, these numbers differ, and each entry has one of them
  abbrev pub sees : (E → ℕ) → Me (Option V) (View E F) → ℕ → Me (Option V) (View E F) → Type 0
  sees number m n m' =
      (n ≡ length m'.0.seen) × (m' ≡ (with_seen m.0 m'.0.seen, m.1))
      × OldsHaveAll number m.0.olds m'.0.seen × IsDistinct eqb (numbers m.0.olds) × AllAmong number (numbers m.0.olds) m'.0.seen
