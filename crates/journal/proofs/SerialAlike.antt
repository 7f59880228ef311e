-- What the serial journal of each part of a past has in common with it.
use Rattle.std.proofs.Common.{◌≡◌, ℕ, ◌≤◌, Bool, true, false, not, List, [], ◌∷◌, ◌++◌, length, map, filter, refl, sym, ◌∙◌, ap, subst, cond, append-nil, append_assoc, true≢false}
use Rattle.std.specs.Prelude.{Some, None}
use Rattle.std.proofs.lemmas.List.{map-append}
use Rattle.change_set.specs.declared.change.Change.{Change}
use Rattle.change_set.specs.Content.{content}
use Rattle.journal.specs.declared.level.Level.TheVariants.{NoIsolation, Serializable}
use Rattle.journal.specs.declared.txn.Txn.{Txn}
use Rattle.journal.specs.declared.op.Op.{Op}
use Rattle.journal.specs.declared.op.Op.TheVariants.{Begin, Read, Step, Write, Commit, Rollback, Ping, Names}
use Rattle.journal.specs.declared.entry.Entry.{Entry}
use Rattle.journal.specs.declared.limits.Limits.{Limits}
use Rattle.journal.specs.Levels.{is_level}
use Rattle.journal.specs.Past.{Judged, ends, open_txns}
use Rattle.journal.specs.Committed.{applied_changes, committed, committed_changes, effect_of, prefixes_behind, prefixes_of}
use Rattle.journal.specs.Views.{view_at}
use Rattle.journal.specs.Found.{found}
use Rattle.journal.specs.Replies.{done_if_fits, is_accepted, is_refusal, names_reply, reply_to}
use Rattle.journal.specs.Journal.{entry_of, judged, judged_entry}
use Rattle.journal.specs.Serial.{block_at, entries_of, renamed, serial_order}
use Rattle.journal.specs.SerialLaws.{is_outside}
use Rattle.journal.proofs.Growth.{committed_changes-push, judged-push}
use Rattle.journal.proofs.Open.{begun_now, by_push, open_txns-push}
use Rattle.journal.proofs.Turns.{prefixes_in_turn}
use Rattle.journal.proofs.AloneReads.{commit_accepted}
use Rattle.journal.proofs.SerialOrder.{IsSound, IsSoundAt, accepted_all, named_open, serial_order-push}
use Rattle.journal.proofs.SerialParts.{at_place}
use Rattle.journal.proofs.SerialBlock.{block_behind, closed_now, commit_accepted_now, now, out}

-- What the serial journal of a past has in common with it
pub record IsAlike (limits : Limits) (p : List Judged) : Type 0 where
  pub judged_is : judged limits (serial_order limits p) ≡ accepted_all (serial_order limits p)
  pub open_is : open_txns limits (accepted_all (serial_order limits p)) ≡ []
  pub changes_are : committed_changes limits (accepted_all (serial_order limits p)) ≡ committed_changes limits p
  pub prefixes_are : prefixes_of limits (accepted_all (serial_order limits p)) ≡ prefixes_of limits p

-- what one more entry of the past does to both
pub record IsBehind (limits : Limits) (p : List Judged) (e : Judged) (B : List Entry) : Type 0 where
  pub judged_is : judged limits (serial_order limits p ++ B) ≡ accepted_all (serial_order limits p ++ B)
  pub open_is : open_txns limits (accepted_all (serial_order limits p ++ B)) ≡ []
  pub changes_are : committed_changes limits (accepted_all (serial_order limits p ++ B)) ≡ committed_changes limits p ++ applied_changes limits p e
  pub prefixes_are : prefixes_of limits (accepted_all (serial_order limits p ++ B)) ≡ (cond e.accepted (prefixes_behind (prefixes_of limits p) e.entry.op) (prefixes_of limits p))

-- an entry that puts nothing there and does nothing
nothing_behind : (limits : Limits) (p : List Judged) (e : Judged) → IsAlike limits p → applied_changes limits p e ≡ []
    → cond e.accepted (prefixes_behind (prefixes_of limits p) e.entry.op) (prefixes_of limits p) ≡ prefixes_of limits p → IsBehind limits p e []
nothing_behind limits p e s applied prefixes =
    let same : serial_order limits p ++ [] ≡ serial_order limits p = append-nil (serial_order limits p) in
    record {
      judged_is = ap (judged limits) same ∙ (s.judged_is ∙ sym (ap accepted_all same));
      open_is = ap (λ es. open_txns limits (accepted_all es)) same ∙ s.open_is;
      changes_are =
          ap (λ es. committed_changes limits (accepted_all es)) same
          ∙ (s.changes_are
          ∙ (sym (append-nil (committed_changes limits p)) ∙ ap (λ c. committed_changes limits p ++ c) (sym applied)));
      prefixes_are = ap (λ es. prefixes_of limits (accepted_all es)) same ∙ (s.prefixes_are ∙ sym prefixes);
    }

-- an entry outside transactions, which stands there itself

pub outside_reply : (limits : Limits) (p : List Judged) (seat : ℕ) (op : Op) → is_outside op ≡ true → IsAlike limits p
    → reply_to limits (accepted_all (serial_order limits p)) (entry_of seat op) ≡ reply_to limits p (entry_of seat op)
unfolding reply_to view_at committed
outside_reply limits p seat op outside s = at op outside
  where
    at : (op : Op) → is_outside op ≡ true → reply_to limits (accepted_all (serial_order limits p)) (entry_of seat op) ≡ reply_to limits p (entry_of seat op)
    at (Begin l) e = absurd (true≢false (sym e))
    at (Read None a) e = ap (λ c. found a (content c ∷ []) limits.rows) s.changes_are
    at (Read (Some t) a) e = absurd (true≢false (sym e))
    at (Step t query number) e = absurd (true≢false (sym e))
    at (Write None changes) e = ap (λ c. done_if_fits limits (c ++ changes)) s.changes_are
    at (Write (Some t) changes) e = absurd (true≢false (sym e))
    at (Commit t) e = absurd (true≢false (sym e))
    at (Rollback t) e = absurd (true≢false (sym e))
    at (Ping t) e = absurd (true≢false (sym e))
    at (Names names) e = ap (λ pairs. names_reply limits pairs names) s.prefixes_are

outside_accepted : (limits : Limits) (p : List Judged) (seat : ℕ) (op : Op) → is_outside op ≡ true → IsAlike limits p
    → is_accepted limits (accepted_all (serial_order limits p)) (entry_of seat op) ≡ is_accepted limits p (entry_of seat op)
unfolding is_accepted
outside_accepted limits p seat op outside s = at op outside (outside_reply limits p seat op outside s)
  where
    at : (op : Op) → is_outside op ≡ true → reply_to limits (accepted_all (serial_order limits p)) (entry_of seat op) ≡ reply_to limits p (entry_of seat op)
        → is_accepted limits (accepted_all (serial_order limits p)) (entry_of seat op) ≡ is_accepted limits p (entry_of seat op)
    at (Begin l) e r = absurd (true≢false (sym e))
    at (Read None a) e r = refl
    at (Read (Some t) a) e r = absurd (true≢false (sym e))
    at (Step t query number) e r = absurd (true≢false (sym e))
    at (Write None changes) e r = ap (λ x. not (is_refusal x)) r
    at (Write (Some t) changes) e r = absurd (true≢false (sym e))
    at (Commit t) e r = absurd (true≢false (sym e))
    at (Rollback t) e r = absurd (true≢false (sym e))
    at (Ping t) e r = absurd (true≢false (sym e))
    at (Names names) e r = ap (λ x. not (is_refusal x)) r

-- it applies the same wherever it stands, and neither begins nor ends a transaction
outside_applied : (limits : Limits) (p q : List Judged) (seat : ℕ) (op : Op) → is_outside op ≡ true → effect_of limits p op ≡ effect_of limits q op
outside_applied limits p q seat (Begin l) e = absurd (true≢false (sym e))
outside_applied limits p q seat (Read None a) e = refl
outside_applied limits p q seat (Read (Some t) a) e = absurd (true≢false (sym e))
outside_applied limits p q seat (Step t query number) e = absurd (true≢false (sym e))
outside_applied limits p q seat (Write None changes) e = refl
outside_applied limits p q seat (Write (Some t) changes) e = absurd (true≢false (sym e))
outside_applied limits p q seat (Commit t) e = absurd (true≢false (sym e))
outside_applied limits p q seat (Rollback t) e = absurd (true≢false (sym e))
outside_applied limits p q seat (Ping t) e = absurd (true≢false (sym e))
outside_applied limits p q seat (Names names) e = refl

outside_begun : (n seat : ℕ) (op : Op) → is_outside op ≡ true → begun_now n (record { entry = entry_of seat op; accepted = true }) ≡ []
outside_begun n seat (Begin l) e = absurd (true≢false (sym e))
outside_begun n seat (Read txn a) e = refl
outside_begun n seat (Step t query number) e = refl
outside_begun n seat (Write txn changes) e = refl
outside_begun n seat (Commit t) e = refl
outside_begun n seat (Rollback t) e = refl
outside_begun n seat (Ping t) e = refl
outside_begun n seat (Names names) e = refl

outside_behind : (limits : Limits) (p : List Judged) (seat : ℕ) (op : Op) → is_outside op ≡ true → is_accepted limits p (entry_of seat op) ≡ true → IsAlike limits p
    → IsBehind limits p (record { entry = entry_of seat op; accepted = true }) (entry_of seat op ∷ [])
unfolding applied_changes
outside_behind limits p seat op outside accepted s =
    let S : List Entry = serial_order limits p in
    let e : Entry = entry_of seat op in
    let x : Judged = record { entry = e; accepted = true } in
    let now_is : accepted_all (S ++ e ∷ []) ≡ accepted_all S ++ x ∷ [] = map-append _ S (e ∷ []) in
    record {
      judged_is =
          judged-push limits S e
          ∙ ((λ i. s.judged_is i ++ judged_entry limits (s.judged_is i) e ∷ [])
          ∙ (ap (λ a. accepted_all S ++ record { entry = e; accepted = a } ∷ []) (outside_accepted limits p seat op outside s ∙ accepted)
          ∙ sym now_is));
      open_is =
          ap (open_txns limits) now_is
          ∙ (open_txns-push limits (accepted_all S) x
          ∙ (λ i. filter (λ t. not (ends t x)) (s.open_is i) ++ outside_begun (length (accepted_all S)) seat op outside i));
      changes_are =
          ap (committed_changes limits) now_is
          ∙ (committed_changes-push limits (accepted_all S) x
          ∙ (λ i. s.changes_are i ++ outside_applied limits (accepted_all S) p seat op outside i));
      prefixes_are =
          ap (prefixes_of limits) now_is
          ∙ (prefixes_in_turn limits (accepted_all S) x
          ∙ ap (λ pairs. prefixes_behind pairs op) s.prefixes_are);
    }

-- a Commit, with its block
commit_behind : (limits : Limits) (p : List Judged) (seat place : ℕ) → 1 ≤ limits.txns → IsSound limits p → is_accepted limits p (entry_of seat (Commit (at_place place))) ≡ true → IsAlike limits p
    → IsBehind limits p (record { entry = entry_of seat (Commit (at_place place)); accepted = true })
    (map (renamed (at_place (length (serial_order limits p)))) (entries_of limits p (at_place place) ++ entry_of seat (Commit (at_place place)) ∷ []))
unfolding applied_changes
commit_behind limits p seat place room sound accepted s =
    let S : List Entry = serial_order limits p in
    let t : Txn = at_place place in
    let u : Txn = at_place (length S) in
    let c = commit_accepted limits p seat t accepted in
    let b = block_behind limits place S p room sound c.0 c.1 s.judged_is s.open_is s.changes_are p [] (append-nil p) in
    let e : Entry = entry_of seat (Commit u) in
    let x : Judged = record { entry = e; accepted = true } in
    let B : List Entry = map (renamed u) (entries_of limits p t ++ entry_of seat (Commit t) ∷ []) in
    let out_is : S ++ B ≡ out limits place S p ++ e ∷ [] =
    ap (λ l. S ++ l) (map-append (renamed u) (entries_of limits p t) (entry_of seat (Commit t) ∷ [])) ∙ sym (append_assoc S (map (renamed u) (entries_of limits p t)) (e ∷ [])) in
    let now_is : accepted_all (S ++ B) ≡ now limits place S p ++ x ∷ [] = ap accepted_all out_is ∙ map-append _ (out limits place S p) (e ∷ []) in
    record {
      judged_is =
          ap (judged limits) out_is
          ∙ (judged-push limits (out limits place S p) e
          ∙ ((λ i. b.judged_is i ++ judged_entry limits (b.judged_is i) e ∷ [])
          ∙ (ap (λ a. now limits place S p ++ record { entry = e; accepted = a } ∷ [])
          (commit_accepted_now limits place S p room sound c.0 c.1 s.judged_is s.open_is s.changes_are seat accepted)
          ∙ sym now_is)));
      open_is = ap (open_txns limits) now_is ∙ closed_now limits place S p room sound c.0 c.1 s.judged_is s.open_is s.changes_are seat;
      changes_are =
          ap (committed_changes limits) now_is
          ∙ (committed_changes-push limits (now limits place S p) x
          ∙ (λ i. (b.changes_are ∙ s.changes_are) i ++ b.own_is i));
      prefixes_are =
          ap (prefixes_of limits) now_is
          ∙ (prefixes_in_turn limits (now limits place S p) x
          ∙ (b.prefixes_are ∙ s.prefixes_are));
    }

-- any entry

-- an accepted op in a transaction that isn't its Commit commits nothing
written_later : (limits : Limits) (p : List Judged) (t : Txn) (changes : List Change) → t.level ≡ Serializable → effect_of limits p (Write (Some t) changes) ≡ []
written_later limits p t changes level = ap (λ l. cond (is_level l NoIsolation) changes []) level

abbrev judged_as : ℕ → Bool → Op → Judged
judged_as seat a op = record { entry = entry_of seat op; accepted = a }

entry_behind : (limits : Limits) (p : List Judged) (e : Judged) → 1 ≤ limits.txns → IsSound limits p → IsSoundAt limits p e → IsAlike limits p
    → IsBehind limits p e (block_at limits (length (serial_order limits p)) p e)
unfolding applied_changes
entry_behind limits p e room sound here s = at e.accepted e.entry.op here
  where
    seat : ℕ
    seat = e.entry.seat

    commit : (t : Txn) → t.level ≡ Serializable → is_accepted limits p (entry_of seat (Commit t)) ≡ true
        → IsBehind limits p (judged_as seat true (Commit t)) (block_at limits (length (serial_order limits p)) p (judged_as seat true (Commit t)))
    commit t level accepted =
        subst (λ l. is_accepted limits p (entry_of seat (Commit (record { place = t.place; level = l }))) ≡ true
        → IsBehind limits p (judged_as seat true (Commit (record { place = t.place; level = l })))
        (block_at limits (length (serial_order limits p)) p (judged_as seat true (Commit (record { place = t.place; level = l })))))
        (sym level) (λ accepted. commit_behind limits p seat t.place room sound accepted s) accepted

    at : (a : Bool) (op : Op) → IsSoundAt limits p (judged_as seat a op) → IsBehind limits p (judged_as seat a op) (block_at limits (length (serial_order limits p)) p (judged_as seat a op))
    at false op h = nothing_behind limits p (judged_as seat false op) s refl refl
    at true (Begin l) h = nothing_behind limits p (judged_as seat true (Begin l)) s refl refl
    at true (Read None a) h = outside_behind limits p seat (Read None a) refl (sym h.accepts) s
    at true (Read (Some t) a) h = nothing_behind limits p (judged_as seat true (Read (Some t) a)) s refl refl
    at true (Step t query number) h = nothing_behind limits p (judged_as seat true (Step t query number)) s refl refl
    at true (Write None changes) h = outside_behind limits p seat (Write None changes) refl (sym h.accepts) s
    at true (Write (Some t) changes) h = nothing_behind limits p (judged_as seat true (Write (Some t) changes)) s
        (written_later limits p t changes (h.level t (named_open limits p seat (Write (Some t) changes) t (sym h.accepts) refl))) refl
    at true (Commit t) h = commit t (h.level t (named_open limits p seat (Commit t) t (sym h.accepts) refl)) (sym h.accepts)
    at true (Rollback t) h = nothing_behind limits p (judged_as seat true (Rollback t)) s refl refl
    at true (Ping t) h = nothing_behind limits p (judged_as seat true (Ping t)) s refl refl
    at true (Names names) h = outside_behind limits p seat (Names names) refl (sym h.accepts) s

-- every part of a sound past

pub sound_front : (limits : Limits) (P p r : List Judged) → p ++ r ≡ P → IsSound limits P → IsSound limits p
sound_front limits P p r split sound q e rest is = sound q e (rest ++ r) (sym (append_assoc q (e ∷ rest) r) ∙ (ap (λ l. l ++ r) is ∙ split))

none_alike : (limits : Limits) → IsAlike limits []
unfolding serial_order judged open_txns committed_changes prefixes_of
none_alike limits = record { judged_is = refl; open_is = refl; changes_are = refl; prefixes_are = refl }

more_alike : (limits : Limits) (p : List Judged) (e : Judged) → IsBehind limits p e (block_at limits (length (serial_order limits p)) p e) → IsAlike limits (p ++ e ∷ [])
more_alike limits p e b =
    let push = serial_order-push limits p e in
    record {
      judged_is = ap (judged limits) push ∙ (b.judged_is ∙ sym (ap accepted_all push));
      open_is = ap (λ es. open_txns limits (accepted_all es)) push ∙ b.open_is;
      changes_are = ap (λ es. committed_changes limits (accepted_all es)) push ∙ (b.changes_are ∙ sym (committed_changes-push limits p e));
      prefixes_are = ap (λ es. prefixes_of limits (accepted_all es)) push ∙ (b.prefixes_are ∙ sym (prefixes_in_turn limits p e));
    }

pub alike_behind : (limits : Limits) (P : List Judged) → 1 ≤ limits.txns → IsSound limits P → (p r : List Judged) → p ++ r ≡ P → IsAlike limits p
alike_behind limits P room sound = by_push (λ p. (r : List Judged) → p ++ r ≡ P → IsAlike limits p) (λ r split. none_alike limits)
    (λ p e ih r split.
    let around : p ++ e ∷ r ≡ P = sym (append_assoc p (e ∷ []) r) ∙ split in
    more_alike limits p e (entry_behind limits p e room (sound_front limits P p (e ∷ r) around sound) (sound p e r around) (ih (e ∷ r) around)))
