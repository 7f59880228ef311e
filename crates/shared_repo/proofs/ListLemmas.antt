-- How lists go on: by entries of other seats, and by one of the seat's own.
use Rattle.std.proofs.Common.{◌≡◌, ◌≢◌, ◌<◌, ℕ, suc, ◌+◌, ◌==◌, Bool, true, false, not, ◌&&◌, if◌then◌else◌, List, [], ◌∷◌, ◌++◌, length, Some, slice_get, nat_eq, refl, ◌∙◌, ap, append_assoc, length-append, arith}
use Rattle.std.proofs.lemmas.Bool.Decides.{nat_tests}
use Rattle.journal_lock.specs.Rule.{NoneOf}
use Rattle.journal.specs.declared.entry.Entry.{Entry}
use Rattle.journal.specs.declared.limits.Limits.{Limits}
use Rattle.journal.specs.declared.op.Op.{Op}
use Rattle.journal.specs.Journal.{entry_of}
use Rattle.repo_store.specs.Stores.{is_of_other_seats}
use Rattle.shared_repo.specs.Lists.{Adds, Goes, places_of}

apart : (m n : ℕ) → m ≢ n → (m == n) ≡ false
apart m n h = grind (arith, nat_tests, h)

same : (n : ℕ) → (n == n) ≡ true
same n = grind (arith, nat_tests)

others_none : (seat at : ℕ) (es : List Entry) → NoneOf (λ (e : Entry). e.seat) seat es → places_of seat at es ≡ []
others_none seat at [] none = refl
others_none seat at (e ∷ es) none =
    ap (λ (b : Bool). if b then at ∷ places_of seat (suc at) es else places_of seat (suc at) es) (apart e.seat seat none.0)
    ∙ others_none seat (suc at) es none.1

pub are_others : (seat : ℕ) (es : List Entry) → NoneOf (λ (e : Entry). e.seat) seat es → is_of_other_seats seat es ≡ true
are_others seat [] none = refl
are_others seat (e ∷ es) none =
    let other : not (nat_eq e.seat seat) ≡ true = ap not (apart e.seat seat none.0) in
    ap (λ (b : Bool). b && is_of_other_seats seat es) other ∙ are_others seat es none.1

-- the list of a pass went on by entries of other seats
pub goes_others : (seat : ℕ) (old new more : List Entry) → new ≡ old ++ more → NoneOf (λ (e : Entry). e.seat) seat more → Goes seat old new []
goes_others seat old new more is none = record { more = more; begins = is; own = others_none seat (length old) more none }

places_of-own : (seat at place : ℕ) (more : List Entry) (op : Op) → NoneOf (λ (e : Entry). e.seat) seat more → place ≡ at + length more
    → places_of seat at (more ++ entry_of seat op ∷ []) ≡ place ∷ []
places_of-own seat at place [] op none is =
    let here : at ≡ place = omega (arith, is) in
    ap (λ (b : Bool). if b then at ∷ [] else []) (same seat) ∙ ap (λ (n : ℕ). n ∷ []) here
places_of-own seat at place (e ∷ es) op none is =
    ap (λ (b : Bool). if b then at ∷ places_of seat (suc at) (es ++ entry_of seat op ∷ []) else places_of seat (suc at) (es ++ entry_of seat op ∷ []))
    (apart e.seat seat none.0)
    ∙ places_of-own seat (suc at) place es op none.1 (omega (arith, is))

slice_get-last : (xs : List Entry) (e : Entry) → slice_get (xs ++ e ∷ []) (length xs) ≡ Some e
slice_get-last [] e = refl
slice_get-last (x ∷ xs) e = slice_get-last xs e

-- the same of a turn that ended with no entry
pub goes_taken : (seat : ℕ) (old mid new more : List Entry) → mid ≡ old ++ more → NoneOf (λ (e : Entry). e.seat) seat more → new ≡ mid → Goes seat old new []
goes_taken seat old mid new more is none ended = goes_others seat old new more (ended ∙ is) none

-- entries of other seats, and then one of the seat
pub adds_one : (limits : Limits) (seat own : ℕ) (old mid new more : List Entry) (e : Entry) (op : Op) (place : ℕ) → mid ≡ old ++ more
    → NoneOf (λ (e : Entry). e.seat) seat more → e ≡ entry_of own op → own ≡ seat → new ≡ mid ++ e ∷ [] → place ≡ length mid → length mid < limits.places
    → Adds limits seat old new op place
adds_one limits seat own old mid new more e op place is none noted same_seat added at room =
    let own_entry : e ≡ entry_of seat op = noted ∙ ap (λ (n : ℕ). entry_of n op) same_seat in
    let with_it : new ≡ mid ++ entry_of seat op ∷ [] = added ∙ ap (λ (x : Entry). mid ++ x ∷ []) own_entry in
    record {
      goes = record {
        more = more ++ entry_of seat op ∷ [];
        begins = with_it ∙ ap (λ (z : List Entry). z ++ entry_of seat op ∷ []) is ∙ append_assoc old more (entry_of seat op ∷ []);
        own = places_of-own seat (length old) place more op none (at ∙ ap length is ∙ length-append old more);
      };
      stands = ap (λ (z : List Entry). slice_get z place) with_it ∙ ap (λ (n : ℕ). slice_get (mid ++ entry_of seat op ∷ []) n) at
          ∙ slice_get-last mid (entry_of seat op);
      last = omega (arith, ap length with_it, length-append mid (entry_of seat op ∷ []), at);
      room = omega (arith, at, room);
    }
