-- The serial order entry by entry, and what holds of the pasts of which it is made.
use Rattle.std.proofs.Common.{◌≡◌, ℕ, zero, suc, Bool, true, false, not, ◌&&◌, ◌||◌, List, [], ◌∷◌, ◌++◌, length, map, take, refl, sym, ◌∙◌, ap, subst, cond, append-nil, append_assoc, true≢false}
use Rattle.std.specs.Prelude.{Option, Some, None, slice_get}
use Rattle.std.specs.List.{list_all}
use Rattle.journal.specs.declared.level.Level.{Level}
use Rattle.journal.specs.declared.level.Level.TheVariants.{Serializable}
use Rattle.journal.specs.declared.txn.Txn.{Txn}
use Rattle.journal.specs.declared.op.Op.{Op}
use Rattle.journal.specs.declared.op.Op.TheVariants.{Begin, Read, Step, Write, Commit, Rollback, Ping, Names}
use Rattle.journal.specs.declared.entry.Entry.{Entry}
use Rattle.journal.specs.declared.limits.Limits.{Limits}
use Rattle.journal.specs.declared.reply.Reply.{Reply}
use Rattle.journal.specs.declared.reply.Reply.TheVariants as reply
use Rattle.journal.specs.LevelLaws.{level_is}
use Rattle.journal.specs.Past.{Judged, begins, is_begin, is_open}
use Rattle.journal.specs.Replies.{is_accepted, is_refusal, live_reply, named_txn, reply_to}
use Rattle.journal.specs.Journal.{entry_of, judged}
use Rattle.journal.specs.Serial.{begins_serializable, block_at, is_all_serializable, serial_behind, serial_order}
use Rattle.journal.specs.SerialLaws.{is_stepped_read_committed, steps_read_committed}
use Rattle.journal.proofs.Growth.{slice_get-append_at}
use Rattle.journal.proofs.Places.{judged_at, take_front}
use Rattle.journal.proofs.AloneReads.{both, open_parts}

-- all entries, as accepted
abbrev pub accepted_all : List Entry → List Judged
accepted_all es = map (λ (e : Entry). record { entry = e; accepted = true }) es

-- The order

serial_behind-append : (limits : Limits) (before : List Judged) (out : List Entry) (xs ys : List Judged)
    → serial_behind limits before out (xs ++ ys) ≡ serial_behind limits (before ++ xs) (serial_behind limits before out xs) ys
serial_behind-append limits before out [] ys = ap (λ b. serial_behind limits b out ys) (sym (append-nil before))
serial_behind-append limits before out (x ∷ xs) ys =
    let next : List Entry = out ++ block_at limits (length out) before x in
    serial_behind-append limits (before ++ x ∷ []) next xs ys
    ∙ ap (λ b. serial_behind limits b (serial_behind limits (before ++ x ∷ []) next xs) ys) (append_assoc before (x ∷ []) xs)

serial_grows : (limits : Limits) (before : List Judged) (out : List Entry) (xs : List Judged) → (rest : List Entry) × (serial_behind limits before out xs ≡ out ++ rest)
serial_grows limits before out [] = ([], sym (append-nil out))
serial_grows limits before out (x ∷ xs) =
    let block : List Entry = block_at limits (length out) before x in
    let more = serial_grows limits (before ++ x ∷ []) (out ++ block) xs in
    (block ++ more.0, more.1 ∙ append_assoc out block more.0)

-- one more entry puts its block behind
pub serial_order-push : (limits : Limits) (p : List Judged) (e : Judged) → serial_order limits (p ++ e ∷ []) ≡ serial_order limits p ++ block_at limits (length (serial_order limits p)) p e
unfolding serial_order
serial_order-push limits p e = serial_behind-append limits [] [] p (e ∷ [])

-- the block of an entry, with what stands around it
pub serial_around : (limits : Limits) (p : List Judged) (e : Judged) (r : List Judged)
    → (rest : List Entry) × (serial_order limits (p ++ e ∷ r) ≡ (serial_order limits p ++ block_at limits (length (serial_order limits p)) p e) ++ rest)
unfolding serial_order
serial_around limits p e r =
    let S : List Entry = serial_behind limits [] [] p in
    let more = serial_grows limits (p ++ e ∷ []) (S ++ block_at limits (length S) p e) r in
    (more.0, serial_behind-append limits [] [] p (e ∷ r) ∙ more.1)

-- Acceptance

-- an accepted entry that names a transaction names an open one
pub named_open : (limits : Limits) (p : List Judged) (seat : ℕ) (op : Op) (t : Txn) → is_accepted limits p (entry_of seat op) ≡ true → named_txn op ≡ Some t → is_open limits p t ≡ true
unfolding is_accepted reply_to
named_open limits p seat op t accepted names = at op accepted names
  where
    some_open : (v : Txn) → is_open limits p v ≡ true → Some v ≡ Some t → is_open limits p t ≡ true
    some_open v is same = let e : v ≡ t = cc in subst (λ w. is_open limits p w ≡ true) e is

    live : (v : Txn) (r : Reply) → (o : Bool) → is_open limits p v ≡ o → not (is_refusal (cond o r reply.NoTransaction)) ≡ true → is_open limits p v ≡ true
    live v r true is e = is
    live v r false is e = absurd (true≢false (sym e))

    at : (op : Op) → is_accepted limits p (entry_of seat op) ≡ true → named_txn op ≡ Some t → is_open limits p t ≡ true
    at (Begin l) e same = cc
    at (Read None ask) e same = cc
    at (Read (Some v) ask) e same = some_open v e same
    at (Step v query number) e same = some_open v e same
    at (Write None changes) e same = cc
    at (Write (Some v) changes) e same = some_open v (live v (live_reply limits p seat (Write (Some v) changes)) (is_open limits p v) refl e) same
    at (Commit v) e same = some_open v (live v (live_reply limits p seat (Commit v)) (is_open limits p v) refl e) same
    at (Rollback v) e same = some_open v (live v (live_reply limits p seat (Rollback v)) (is_open limits p v) refl e) same
    at (Ping v) e same = some_open v (live v (live_reply limits p seat (Ping v)) (is_open limits p v) refl e) same
    at (Names names) e same = cc

-- Sound pasts: judged entries, where only SERIALIZABLE transactions are open and no Step is accepted

pub record IsSoundAt (limits : Limits) (q : List Judged) (e : Judged) : Type 0 where
  pub accepts : e.accepted ≡ is_accepted limits q e.entry
  pub level : (t : Txn) → is_open limits q t ≡ true → t.level ≡ Serializable
  pub steps : steps_read_committed e.entry.op ≡ true

-- each entry is sound behind those before it
abbrev pub IsSound : Limits → List Judged → Type 0
IsSound limits past = (q : List Judged) (e : Judged) (r : List Judged) → q ++ e ∷ r ≡ past → IsSoundAt limits q e

all_at : {A : Type 0} (f : A → Bool) (xs : List A) (k : ℕ) (x : A) → list_all f xs ≡ true → slice_get xs k ≡ Some x → f x ≡ true
all_at f [] k x all got = cc
all_at f (y ∷ ys) zero x all got = let same : y ≡ x = cc in ap f (sym same) ∙ (both (f y) (list_all f ys) all).0
all_at f (y ∷ ys) (suc k) x all got = all_at f ys k x (both (f y) (list_all f ys) all).1 got

all_front : {A : Type 0} (f : A → Bool) (xs ys : List A) → list_all f (xs ++ ys) ≡ true → list_all f xs ≡ true
all_front f [] ys all = refl
all_front f (x ∷ xs) ys all =
    let h = both (f x) (list_all f (xs ++ ys)) all in
    λ i. h.0 i && all_front f xs ys h.1 i

-- where all accepted Begins are SERIALIZABLE, so is each open transaction
open_level : (limits : Limits) (p : List Judged) (t : Txn) → is_all_serializable p ≡ true → is_open limits p t ≡ true → t.level ≡ Serializable
open_level limits p t all is = go (slice_get p t.place) refl (open_parts limits p t is).1
  where
    at : (l : Level) (op : Op) → is_begin l op ≡ true → begins_serializable op ≡ true → l ≡ Serializable
    at l (Begin m) here is = level_is l m here ∙ level_is m Serializable is
    at l (Read txn ask) here is = absurd (true≢false (sym here))
    at l (Step v query number) here is = absurd (true≢false (sym here))
    at l (Write txn changes) here is = absurd (true≢false (sym here))
    at l (Commit v) here is = absurd (true≢false (sym here))
    at l (Rollback v) here is = absurd (true≢false (sym here))
    at l (Ping v) here is = absurd (true≢false (sym here))
    at l (Names names) here is = absurd (true≢false (sym here))

    go : (o : Option Judged) → slice_get p t.place ≡ o → begins t o ≡ true → t.level ≡ Serializable
    go None got b = absurd (true≢false (sym b))
    go (Some e) got b =
        let h = both e.accepted (is_begin t.level e.entry.op) b in
        let k : (not e.accepted || begins_serializable e.entry.op) ≡ true = all_at (λ (e : Judged). not e.accepted || begins_serializable e.entry.op) p t.place e all got in
        at t.level e.entry.op h.1 (ap (λ a. not a || begins_serializable e.entry.op) (sym h.0) ∙ k)

pub sound_journal : (limits : Limits) (J : List Entry) → is_all_serializable (judged limits J) ≡ true → is_stepped_read_committed J ≡ true → IsSound limits (judged limits J)
sound_journal limits J all steps q e r is =
    let got : slice_get (judged limits J) (length q) ≡ Some e = ap (λ p. slice_get p (length q)) (sym is) ∙ slice_get-append_at q e r in
    let at = judged_at limits J (length q) e got in
    let front = ap (λ p. take (length q) p) (sym is) ∙ take_front q (e ∷ r) (length q) refl in
    record {
      accepts = at.2 ∙ ap (λ p. is_accepted limits p e.entry) front;
      level = λ t live. open_level limits q t (all_front (λ (e : Judged). not e.accepted || begins_serializable e.entry.op) q (e ∷ r) (ap is_all_serializable is ∙ all)) live;
      steps = all_at (λ (e : Entry). steps_read_committed e.op) J (length q) e.entry steps at.1;
    }
