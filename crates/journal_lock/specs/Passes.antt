-- What a clause says of a lock, of its passes and of the value that it lends.
use Rattle.std.specs.Prelude.{◌≡◌, ℕ, Bool, true, false, List, [], ◌∷◌, map, ◌+◌, Option, Some, None}
use Rattle.std.specs.declared.snapshot.Snapshot.{Snapshot}
use Rattle.atomic_table.specs.declared.shared.Seat.{Seat}
use Rattle.journal_lock.specs.declared.table.View.{View}
use Rattle.journal_lock.specs.declared.table.OldList.{OldList}
use Rattle.journal_lock.specs.declared.pass.Pass.{Pass}
use Rattle.journal_lock.specs.declared.pass.Held.{Held}
use Rattle.journal_lock.specs.declared.lock.JournalLock.{JournalLock}
use Rattle.journal_lock.specs.Rule.{HasAll, old, closer}

-- the slots that a pass has out of the table: the empty one of the value, while it has the turn
abbrev pub in_hand : {V : Type 0} → Bool → List (ℕ × Option V)
in_hand true = (0, None) ∷ []
in_hand false = []

module _ {V E : Type 0} where
  -- the seat number of a pass
  abbrev pub seat_of : Pass V E → ℕ
  seat_of p = p.number

  -- the entries that it has seen
  abbrev pub seen : Pass V E → List E
  seen p = p.seat.me.0.seen

  -- the value that its lock was made with, whose fixed part is the pass's
  abbrev pub fixed_of : Pass V E → Option (Snapshot V)
  fixed_of p = p.seat.me.0.fixed

  -- it has the turn
  abbrev pub has_turn : Pass V E → Bool
  has_turn p = p.seat.me.0.holds

  -- the value that is lent
  abbrev pub lent : Held V E → V
  lent h = h.value

  -- the same loan with another value
  abbrev pub with_lent : Held V E → V → Held V E
  with_lent h x = record h { value = x }

  -- the number of passes that the lock was made with
  abbrev pub seats_of : JournalLock V E → ℕ
  seats_of lock = lock.seats

  -- the value that it was made with, as it was then
  abbrev pub told_of : JournalLock V E → Snapshot V
  told_of lock = lock.table.shared.key.value

  abbrev pub origin_of : JournalLock V E → V
  origin_of lock = (told_of lock).value

  -- it is a pass of this lock. Its fixed part is that of the value that the lock was made with
  abbrev pub IsPassOf : JournalLock V E → Pass V E → Type 0
  IsPassOf lock p = (p.seat.table_id ≡ lock.table.shared.table_id) × (p.seat.me.0.number ≡ p.number) × (p.seat.me.0.live ≡ true) × (p.seat.me.0.olds ≡ []) × (p.seat.me.1 ≡ in_hand p.seat.me.0.holds) × (p.seat.me.0.fixed ≡ Some (told_of lock))

  -- a pass keeps its seat number
  abbrev pub IsSamePass : Pass V E → Pass V E → Type 0
  IsSamePass p q = seat_of q ≡ seat_of p

  -- a pass is as it was
  abbrev pub IsUnchanged : Pass V E → Pass V E → Type 0
  IsUnchanged p q = (q.number ≡ p.number) × (q.seat.table_id ≡ p.seat.table_id) × (q.seat.me ≡ p.seat.me)

  -- it is what was lent at the last take of this pass
  abbrev pub IsHeldOf : Pass V E → Held V E → Type 0
  IsHeldOf p h = h.at.value ≡ p

  -- a pass goes on: its new list begins with its old one, and past that has no entry with its number
  abbrev pub GoesOn : (E → ℕ) → Pass V E → Pass V E → Type 0
  GoesOn number p q = HasAll number (seat_of p) (seen p) (seen q)

  -- these are passes of this lock that hold nothing
  abbrev pub AreIdle : JournalLock V E → List (Pass V E) → Type 0
  AreIdle lock [] = Unit {0}
  AreIdle lock (p ∷ ps) = (IsPassOf lock p × (has_turn p ≡ false)) × AreIdle lock ps

  -- these passes have the seat numbers from k on, and have seen nothing
  abbrev pub AreNew : ℕ → List (Pass V E) → Type 0
  AreNew k [] = Unit {0}
  AreNew k (p ∷ ps) = ((seat_of p ≡ k) × (seen p ≡ [])) × AreNew (k + 1) ps

  -- the list begins with what each pass has seen, and past that has no entry with the pass's number
  abbrev pub EachHasAll : (E → ℕ) → List (Pass V E) → List E → Type 0
  EachHasAll number [] log = Unit {0}
  EachHasAll number (p ∷ ps) log = HasAll number (seat_of p) (seen p) log × EachHasAll number ps log

  -- their seat numbers
  abbrev pub seats_in : List (Pass V E) → List ℕ
  seats_in ps = map (λ p. p.number) ps

  -- what they have seen, each with its number
  abbrev pub olds_of : List (Pass V E) → List (OldList E)
  olds_of ps = map (λ p. old p.seat.me.0.number p.seat.me.0.seen) ps

  -- the seat makes the passes of this lock, and has made none
  abbrev pub IsMakerOf : JournalLock V E → Seat (Option V) (View E (Snapshot V)) → Type 0
  IsMakerOf lock m = (m.table_id ≡ lock.table.shared.table_id) × (m.me.0.makes ≡ true) × (m.me.0.made ≡ 0) × (m.me.0.fixed ≡ Some (told_of lock))

  -- the seat takes in the passes of this lock, and has taken in these lists
  abbrev pub IsCloserOf : JournalLock V E → List (OldList E) → Seat (Option V) (View E (Snapshot V)) → Type 0
  IsCloserOf lock olds m = (m.table_id ≡ lock.table.shared.table_id) × (m.me.0 ≡ record (closer (Some (told_of lock)) lock.table.shared.key.seats m.me.0.seen) { olds = olds }) × (m.me.1 ≡ [])
