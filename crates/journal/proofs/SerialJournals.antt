-- The serial journal replies as the journal does, and commits the same content.
use Rattle.std.proofs.Common.{◌≡◌, ◌⊎◌, ℕ, ◌+◌, ◌<◌, ◌≤◌, Bool, true, false, ◌&&◌, List, [], ◌∷◌, ◌++◌, length, map, take, refl, sym, ◌∙◌, ap, subst, cond, append-nil, append_assoc, length-append, true≢false, nat_lt, nat_eq, eqb-true, ltb-true, arith}
use Rattle.std.specs.Prelude.{Some, None, slice_get}
use Rattle.std.specs.Option.{option_map}
use Rattle.std.proofs.lemmas.List.{map-append, length-map}
use Rattle.std.proofs.lemmas.Bool.Decides.{nat_tests}
use Rattle.change_set.specs.Content.{content}
use Rattle.journal.specs.declared.level.Level.TheVariants.{Serializable}
use Rattle.journal.specs.declared.txn.Txn.{Txn}
use Rattle.journal.specs.declared.op.Op.{Op}
use Rattle.journal.specs.declared.op.Op.TheVariants.{Begin, Read, Step, Write, Commit, Rollback, Ping, Names}
use Rattle.journal.specs.declared.entry.Entry.{Entry}
use Rattle.journal.specs.declared.limits.Limits.{Limits}
use Rattle.journal.specs.declared.reply.Reply.{Reply}
use Rattle.journal.specs.Levels.{is_level, is_txn}
use Rattle.journal.specs.LevelLaws.{txn_is, txn_itself}
use Rattle.journal.specs.Past.{Judged, is_open, joined, joined_from}
use Rattle.journal.specs.Committed.{committed, committed_changes, prefixes_of}
use Rattle.journal.specs.Conflicts.{clash_at}
use Rattle.journal.specs.Replies.{is_accepted, named_txn, reply_to}
use Rattle.journal.specs.Journal.{committed_after, entry_of, judged, prefixes_after, reply_at, reply_next}
use Rattle.journal.specs.Serial.{block_at, entries_of, is_of, renamed, serial_journal, serial_order}
use Rattle.journal.specs.SerialLaws.{IsAcceptedAt, IsCommitAt, IsOutsideAt, SerialAgrees, IsWithinAt, SerialJournalAgrees, block_start, is_outside, new_place, new_txn, renamed_reply}
use Rattle.journal.proofs.Growth.{joined_from-append, reply_at_the_end, slice_get-append_at}
use Rattle.journal.proofs.Places.{reply_there, some_same, split_at, take_past}
use Rattle.journal.proofs.AloneReads.{both, commit_accepted, not_ended, open_parts}
use Rattle.journal.proofs.SerialOrder.{IsSound, accepted_all, named_open, serial_around, sound_journal}
use Rattle.journal.proofs.SerialParts.{at_place}
use Rattle.journal.proofs.SerialBlock.{block_behind, commit_reply_is, out, served_behind}
use Rattle.journal.proofs.SerialCover.{made_of}
use Rattle.journal.proofs.SerialAlike.{IsAlike, alike_behind, outside_reply, sound_front}

-- Where a kept entry stands

-- the serial journal around an entry, with its reply there
pub record IsStanding (limits : Limits) (serial front : List Entry) (x : Entry) (r : Reply) : Type 0 where
  pub rest : List Entry
  pub around : serial ≡ front ++ x ∷ rest
  pub judged_is : judged limits front ≡ accepted_all front
  pub reply : reply_to limits (accepted_all front) x ≡ r

stands : (limits : Limits) (serial front : List Entry) (x : Entry) (r : Reply) (n : ℕ) → length front ≡ n → IsStanding limits serial front x r
    → (slice_get serial n ≡ Some x) × (reply_at limits serial n ≡ Some r)
unfolding reply_next
stands limits serial front x r n at s = (
  ap (λ l. slice_get l n) s.around ∙ (ap (λ m. slice_get (front ++ x ∷ s.rest) m) (sym at) ∙ slice_get-append_at front x s.rest),
  ap (λ l. reply_at limits l n) s.around
      ∙ (ap (λ m. reply_at limits (front ++ x ∷ s.rest) m) (sym at)
      ∙ (reply_at_the_end limits front x s.rest
      ∙ ap Some (ap (λ past. reply_to limits past x) s.judged_is ∙ s.reply))),
)

module _ (limits : Limits) (J : List Entry) (room : 1 ≤ limits.txns) (sound : IsSound limits (judged limits J)) where
  abbrev past : List Judged
  past = judged limits J

  alike : (p r : List Judged) → p ++ r ≡ past → IsAlike limits p
  alike = alike_behind limits past room sound

  outside_block : (p : List Judged) (seat : ℕ) (op : Op) → is_outside op ≡ true → block_at limits (length (serial_order limits p)) p (record { entry = entry_of seat op; accepted = true }) ≡ entry_of seat op ∷ []
  outside_block p seat (Begin l) e = absurd (true≢false (sym e))
  outside_block p seat (Read None a) e = refl
  outside_block p seat (Read (Some t) a) e = absurd (true≢false (sym e))
  outside_block p seat (Step t query number) e = absurd (true≢false (sym e))
  outside_block p seat (Write None changes) e = refl
  outside_block p seat (Write (Some t) changes) e = absurd (true≢false (sym e))
  outside_block p seat (Commit t) e = absurd (true≢false (sym e))
  outside_block p seat (Rollback t) e = absurd (true≢false (sym e))
  outside_block p seat (Ping t) e = absurd (true≢false (sym e))
  outside_block p seat (Names names) e = refl

  outside_stands : (place : ℕ) (e : Entry) → IsAcceptedAt past place e → is_outside e.op ≡ true
      → (slice_get (serial_journal limits J) (block_start limits past place) ≡ Some e) × (reply_at limits (serial_journal limits J) (block_start limits past place) ≡ reply_at limits J place)
  unfolding serial_journal
  outside_stands place e got outside =
      let j : Judged = record { entry = e; accepted = true } in
      let p : List Judged = take place past in
      let split = split_at past place j got in
      let more = serial_around limits p j split.0 in
      let s = alike p (j ∷ split.0) (sym split.1) in
      let r : Reply = reply_to limits p e in
      let standing : IsStanding limits (serial_order limits past) (serial_order limits p) e r = record {
        rest = more.0;
        around = ap (serial_order limits) split.1 ∙ (more.1 ∙ (ap (λ b. (serial_order limits p ++ b) ++ more.0) (outside_block p e.seat e.op outside) ∙ append_assoc (serial_order limits p) (e ∷ []) more.0));
        judged_is = s.judged_is;
        reply = outside_reply limits p e.seat e.op outside s;
      } in
      let h = stands limits (serial_order limits past) (serial_order limits p) e r (length (serial_order limits p)) refl standing in
      (h.0, h.1 ∙ sym (reply_there limits J place j got))

  -- An entry of a committed transaction

  -- the entries of the transaction around one of them
  entries_around : (p q : List Judged) (e : Entry) (r : List Judged) (t : Txn) → p ≡ q ++ record { entry = e; accepted = true } ∷ r → is_of t (length q) e.op ≡ true
      → (rest : List Entry) × (entries_of limits p t ≡ entries_of limits q t ++ e ∷ rest)
  unfolding entries_of
  entries_around p q e r t split mine =
      let j : Judged = record { entry = e; accepted = true } in
      let f : List Judged → Judged → List Entry = λ before e. cond (e.accepted && is_of t (length before) e.entry.op) (e.entry ∷ []) [] in
      let rest : List Entry = joined_from (q ++ j ∷ []) f r in
      (rest, ap (joined f) split ∙ (joined_from-append [] f q (j ∷ r) ∙ ap (λ c. joined f q ++ (cond c (e ∷ []) [] ++ rest)) mine))

  -- no accepted entry of the transaction stands behind its Commit
  none_behind : (p : List Judged) (seat : ℕ) (t : Txn) (r q s : List Judged) (e : Entry) → q ≡ p ++ record { entry = entry_of seat (Commit t); accepted = true } ∷ r
      → q ++ record { entry = e; accepted = true } ∷ s ≡ past → is_open limits p t ≡ true → is_of t (length q) e.op ≡ true → ⊥
  none_behind p seat t r q s e front split live mine = at e.op mine (sym (sound q (record { entry = e; accepted = true }) s split).accepts)
    where
      before : t.place < length p
      before = (open_parts limits p t live).0

      -- it isn't open there
      ended : is_open limits q t ≡ true → ⊥
      ended is = true≢false (sym (txn_itself t) ∙ not_ended limits p (record { entry = entry_of seat (Commit t); accepted = true }) r t (ap (λ l. is_open limits l t) (sym front) ∙ is) before)

      named : (op : Op) (v : Txn) → named_txn op ≡ Some v → is_txn t v ≡ true → is_accepted limits q (entry_of e.seat op) ≡ true → ⊥
      named op v names same accepted =
          ended (subst (λ w. is_open limits q w ≡ true) (sym (txn_is t v same)) (named_open limits q e.seat op v accepted names))

      at : (op : Op) → is_of t (length q) op ≡ true → is_accepted limits q (entry_of e.seat op) ≡ true → ⊥
      at (Begin l) mine accepted =
          let here : length q ≡ t.place = eqb-true (length q) t.place (both (nat_eq (length q) t.place) (is_level t.level l) mine).0 in
          let long = ap (λ l. length l) front ∙ length-append p (record { entry = entry_of seat (Commit t); accepted = true } ∷ r) in
          omega (arith, before, here, long)
      at (Read None a) mine accepted = true≢false (sym mine)
      at (Read (Some v) a) mine accepted = named (Read (Some v) a) v refl mine accepted
      at (Step v query number) mine accepted = named (Step v query number) v refl mine accepted
      at (Write None changes) mine accepted = true≢false (sym mine)
      at (Write (Some v) changes) mine accepted = named (Write (Some v) changes) v refl mine accepted
      at (Commit v) mine accepted = named (Commit v) v refl mine accepted
      at (Rollback v) mine accepted = named (Rollback v) v refl mine accepted
      at (Ping v) mine accepted = named (Ping v) v refl mine accepted
      at (Names names) mine accepted = true≢false (sym mine)

  -- the block of a transaction's Commit, with what stands around it
  block_around : (p : List Judged) (seat : ℕ) (t : Txn) (r : List Judged) → past ≡ p ++ record { entry = entry_of seat (Commit t); accepted = true } ∷ r
      → (rest : List Entry) × (serial_order limits past ≡ (serial_order limits p ++ map (renamed (record { place = length (serial_order limits p); level = t.level })) (entries_of limits p t ++ entry_of seat (Commit t) ∷ [])) ++ rest)
  block_around p seat t r split =
      let more = serial_around limits p (record { entry = entry_of seat (Commit t); accepted = true }) r in
      (more.0, ap (serial_order limits) split ∙ more.1)

  -- its place in the block
  long_front : (S : List Entry) (u : Txn) (es : List Entry) → length (S ++ map (renamed u) es) ≡ length S + length es
  long_front S u es = length-append S (map (renamed u) es) ∙ ap (λ n. length S + n) (length-map es (renamed u))

  within_stands : (place : ℕ) (commit n : ℕ) (e : Entry) →
      let t : Txn = at_place place in
      let u : Txn = new_txn limits past t commit in
      let new : ℕ = new_place limits past t commit n in
      IsCommitAt past t commit → IsAcceptedAt past n e → is_of t n e.op ≡ true
      → (slice_get (serial_journal limits J) new ≡ Some (renamed u e)) × (reply_at limits (serial_journal limits J) new ≡ option_map (renamed_reply u) (reply_at limits J n))
  unfolding serial_journal
  within_stands place commit n e at_commit at_entry mine = go (nat_lt n commit) (nat_lt commit n) refl refl
    where
      t : Txn
      t = at_place place

      ended : Judged
      ended = record { entry = entry_of at_commit.0 (Commit t); accepted = true }

      j : Judged
      j = record { entry = e; accepted = true }

      p : List Judged
      p = take commit past

      q : List Judged
      q = take n past

      S : List Entry
      S = serial_order limits p

      u : Txn
      u = at_place (length S)

      around : (r : List Judged) × (past ≡ p ++ ended ∷ r) × (length p ≡ commit)
      around = split_at past commit ended at_commit.1

      there : (r : List Judged) × (past ≡ q ++ j ∷ r) × (length q ≡ n)
      there = split_at past n j at_entry

      mine_there : is_of t (length q) e.op ≡ true
      mine_there = ap (λ m. is_of t m e.op) there.2 ∙ mine

      sound_p : IsSound limits p
      sound_p = sound_front limits past p (ended ∷ around.0) (sym around.1) sound

      accepted : is_accepted limits p (entry_of at_commit.0 (Commit t)) ≡ true
      accepted = sym (sound p ended around.0 (sym around.1)).accepts

      c : (is_open limits p t ≡ true) × (clash_at limits p t ≡ None)
      c = commit_accepted limits p at_commit.0 t accepted

      s : IsAlike limits p
      s = alike p (ended ∷ around.0) (sym around.1)

      finish : (front : List Entry) → length front ≡ length S + length (entries_of limits q t) → IsStanding limits (serial_order limits past) front (renamed u e) (renamed_reply u (reply_to limits q e))
          → (slice_get (serial_order limits past) (new_place limits past t commit n) ≡ Some (renamed u e))
          × (reply_at limits (serial_order limits past) (new_place limits past t commit n) ≡ option_map (renamed_reply u) (reply_at limits J n))
      finish front long standing =
          let h = stands limits (serial_order limits past) front (renamed u e) (renamed_reply u (reply_to limits q e)) (length S + length (entries_of limits q t)) long standing in
          (h.0, h.1 ∙ ap (option_map (renamed_reply u)) (sym (reply_there limits J n j at_entry)))

      block : (rest : List Entry) × (serial_order limits past ≡ (S ++ map (renamed u) (entries_of limits p t ++ entry_of at_commit.0 (Commit t) ∷ [])) ++ rest)
      block = block_around p at_commit.0 t around.0 around.1

      -- before the Commit
      earlier : n < commit → (slice_get (serial_order limits past) (new_place limits past t commit n) ≡ Some (renamed u e))
          × (reply_at limits (serial_order limits past) (new_place limits past t commit n) ≡ option_map (renamed_reply u) (reply_at limits J n))
      earlier lt =
          let more = take_past q j there.0 commit (subst (λ m. m < commit) (sym there.2) lt) in
          let front : p ≡ q ++ j ∷ more.0 = ap (take commit) there.1 ∙ more.1 in
          let es = entries_around p q e more.0 t front mine_there in
          let b = block_behind limits place S p room sound_p c.0 c.1 s.judged_is s.open_is s.changes_are q (j ∷ more.0) (sym front) in
          let f = served_behind limits place S p room sound_p c.0 c.1 s.judged_is s.open_is s.changes_are q e more.0 (sym front) mine_there in
          let x : Entry = renamed u e in
          let first : List Entry = map (renamed u) (entries_of limits q t) in
          let last : List Entry = map (renamed u) (es.0 ++ entry_of at_commit.0 (Commit t) ∷ []) in
          let whole : map (renamed u) (entries_of limits p t ++ entry_of at_commit.0 (Commit t) ∷ []) ≡ first ++ x ∷ last =
          ap (λ l. map (renamed u) (l ++ entry_of at_commit.0 (Commit t) ∷ [])) es.1
          ∙ (ap (map (renamed u)) (append_assoc (entries_of limits q t) (e ∷ es.0) (entry_of at_commit.0 (Commit t) ∷ []))
          ∙ map-append (renamed u) (entries_of limits q t) (e ∷ es.0 ++ entry_of at_commit.0 (Commit t) ∷ [])) in
          finish (out limits place S q) (long_front S u (entries_of limits q t)) (record {
            rest = last ++ block.0;
            around =
                block.1
                ∙ (ap (λ l. (S ++ l) ++ block.0) whole
                ∙ (ap (λ l. l ++ block.0) (sym (append_assoc S first (x ∷ last)))
                ∙ append_assoc (S ++ first) (x ∷ last) block.0));
            judged_is = b.judged_is;
            reply = f.reply;
          })

      -- the Commit
      at_end : n ≡ commit → (slice_get (serial_order limits past) (new_place limits past t commit n) ≡ Some (renamed u e))
          × (reply_at limits (serial_order limits past) (new_place limits past t commit n) ≡ option_map (renamed_reply u) (reply_at limits J n))
      at_end same =
          let q_is : q ≡ p = ap (λ m. take m past) same in
          let is : entry_of at_commit.0 (Commit t) ≡ e = ap (λ (i : Judged). i.entry) (some_same ended j (sym at_commit.1 ∙ (ap (slice_get past) (sym same) ∙ at_entry))) in
          let b = block_behind limits place S p room sound_p c.0 c.1 s.judged_is s.open_is s.changes_are p [] (append-nil p) in
          let x : Entry = entry_of at_commit.0 (Commit u) in
          let first : List Entry = map (renamed u) (entries_of limits p t) in
          let standing : IsStanding limits (serial_order limits past) (out limits place S p) x (renamed_reply u (reply_to limits p (entry_of at_commit.0 (Commit t)))) = record {
            rest = block.0;
            around =
                block.1
                ∙ (ap (λ l. (S ++ l) ++ block.0) (map-append (renamed u) (entries_of limits p t) (entry_of at_commit.0 (Commit t) ∷ []))
                ∙ (ap (λ l. l ++ block.0) (sym (append_assoc S first (x ∷ [])))
                ∙ append_assoc (S ++ first) (x ∷ []) block.0));
            judged_is = b.judged_is;
            reply = commit_reply_is limits place S p room sound_p c.0 c.1 s.judged_is s.open_is s.changes_are at_commit.0;
          } in
          finish (out limits place S p) (long_front S u (entries_of limits p t) ∙ ap (λ l. length S + length (entries_of limits l t)) (sym q_is))
          (subst (λ l. IsStanding limits (serial_order limits past) (out limits place S p) (renamed u e) (renamed_reply u (reply_to limits l e))) (sym q_is)
          (subst (λ y. IsStanding limits (serial_order limits past) (out limits place S p) (renamed u y) (renamed_reply u (reply_to limits p y))) is standing))

      -- behind it there is none
      later : commit < n → ⊥
      later lt =
          let more = take_past p ended around.0 n (subst (λ m. m < n) (sym around.2) lt) in
          none_behind p at_commit.0 t more.0 q there.0 e (ap (take n) around.1 ∙ more.1) (sym there.1) c.0 mine_there

      go : (a b : Bool) → nat_lt n commit ≡ a → nat_lt commit n ≡ b
          → (slice_get (serial_order limits past) (new_place limits past t commit n) ≡ Some (renamed u e))
          × (reply_at limits (serial_order limits past) (new_place limits past t commit n) ≡ option_map (renamed_reply u) (reply_at limits J n))
      go true b is more = earlier (ltb-true n commit is)
      go false true is more = absurd (later (ltb-true commit n more))
      go false false is more = at_end (grind (arith, nat_tests))

  -- a committed transaction is SERIALIZABLE
  committed_level : (t : Txn) (commit : ℕ) → IsCommitAt past t commit → t.level ≡ Serializable
  committed_level t commit at_commit =
      let ended : Judged = record { entry = entry_of at_commit.0 (Commit t); accepted = true } in
      let around = split_at past commit ended at_commit.1 in
      let h = sound (take commit past) ended around.0 (sym around.1) in
      h.level t (named_open limits (take commit past) at_commit.0 (Commit t) t (sym h.accepts) refl)

  within : (t : Txn) (commit n : ℕ) (e : Entry) → IsCommitAt past t commit → IsAcceptedAt past n e → is_of t n e.op ≡ true →
      let u : Txn = new_txn limits past t commit in
      let new : ℕ = new_place limits past t commit n in
      (slice_get (serial_journal limits J) new ≡ Some (renamed u e)) × (reply_at limits (serial_journal limits J) new ≡ option_map (renamed_reply u) (reply_at limits J n))
  within t commit n e at_commit =
      subst (λ l.
      let v : Txn = record { place = t.place; level = l } in
      IsCommitAt past v commit → IsAcceptedAt past n e → is_of v n e.op ≡ true
      → (slice_get (serial_journal limits J) (new_place limits past v commit n) ≡ Some (renamed (new_txn limits past v commit) e))
      × (reply_at limits (serial_journal limits J) (new_place limits past v commit n) ≡ option_map (renamed_reply (new_txn limits past v commit)) (reply_at limits J n)))
      (sym (committed_level t commit at_commit)) (within_stands t.place commit n e) at_commit

  whole : IsAlike limits past
  whole = alike past [] (append-nil past)

  all_accepted : judged limits (serial_journal limits J) ≡ accepted_all (serial_journal limits J)
  unfolding serial_journal
  all_accepted = whole.judged_is

  same_content : committed_after limits (serial_journal limits J) ≡ committed_after limits J
  unfolding serial_journal committed_after committed
  same_content = ap (λ past. content (committed_changes limits past)) whole.judged_is ∙ ap content whole.changes_are

  same_prefixes : prefixes_after limits (serial_journal limits J) ≡ prefixes_after limits J
  unfolding serial_journal prefixes_after
  same_prefixes = ap (prefixes_of limits) whole.judged_is ∙ whole.prefixes_are

  each_kept : (new : ℕ) → new < length (serial_journal limits J) → IsOutsideAt limits past new ⊎ IsWithinAt limits past new
  unfolding serial_journal
  each_kept = made_of limits past past [] (append-nil past)

  agrees : SerialAgrees limits J
  agrees = record { outside = outside_stands; within = within; each = each_kept; accepted = all_accepted; committed = same_content; prefixes = same_prefixes }

pub serial_journal_agrees : SerialJournalAgrees
serial_journal_agrees limits J room all steps = agrees limits J room (sound_journal limits J all steps)
