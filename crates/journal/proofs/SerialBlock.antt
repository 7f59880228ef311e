-- A committed transaction behind a serial journal, entry by entry: each is accepted there, and has the reply that it had.
use Rattle.std.proofs.Common.{◌≡◌, ℕ, ◌+◌, ◌<◌, ◌≤◌, Bool, true, false, not, ◌&&◌, ◌||◌, List, [], ◌∷◌, ◌++◌, length, map, take, filter, refl, sym, ◌∙◌, ap, subst, cond, append-nil, append_assoc, length-append, true≢false, nat_lt, nat_le, nat_eq, eqb-true, eq-eqb, lt-ltb, arith, drop_of_length-le}
use Rattle.std.specs.Prelude.{Some, None, slice_get, if◌then◌else◌}
use Rattle.std.specs.List.{list_any}
use Rattle.std.proofs.lemmas.List.{map-append, length-map}
use Rattle.std.proofs.lemmas.Bool.Decides.{nat_tests}
use Rattle.change_set.specs.declared.change.Change.{Change}
use Rattle.change_set.specs.Content.{content}
use Rattle.journal.specs.declared.level.Level.{Level}
use Rattle.journal.specs.declared.level.Level.TheVariants.{ReadCommitted, Serializable}
use Rattle.journal.specs.declared.txn.Txn.{Txn}
use Rattle.journal.specs.declared.ask.Ask.{Ask}
use Rattle.journal.specs.declared.op.Op.{Op}
use Rattle.journal.specs.declared.op.Op.TheVariants.{Begin, Read, Step, Write, Commit, Rollback, Ping, Names}
use Rattle.journal.specs.declared.entry.Entry.{Entry}
use Rattle.journal.specs.declared.limits.Limits.{Limits}
use Rattle.journal.specs.declared.reply.Reply.{Reply}
use Rattle.journal.specs.declared.reply.Reply.TheVariants as reply
use Rattle.journal.specs.Levels.{is_level, is_txn}
use Rattle.journal.specs.LevelLaws.{level_is, txn_is, txn_itself}
use Rattle.journal.specs.Past.{Judged, begins, ends, is_begin, is_open, joined_from, open_txns, own_changes, written}
use Rattle.journal.specs.Committed.{applied_changes, committed_changes, prefixes_behind, prefixes_of}
use Rattle.journal.specs.Views.{view_at}
use Rattle.journal.specs.Found.{found, one_matches}
use Rattle.journal.specs.Conflicts.{clash_at, delta_at, deltas_since, least, observed, with_pattern}
use Rattle.journal.specs.Replies.{begin_reply, commit_reply, done_if_fits, fits, is_accepted, is_refusal, named_txn, reply_to}
use Rattle.journal.specs.Journal.{entry_of, judged, judged_entry}
use Rattle.journal.specs.Serial.{entries_of, is_of, renamed}
use Rattle.journal.specs.SerialLaws.{renamed_reply}
use Rattle.journal.proofs.Growth.{committed_changes-push, joined-push, judged-push, slice_get-append_at}
use Rattle.journal.proofs.Open.{begun_now, by_push, open_txns-push}
use Rattle.journal.proofs.Among.{is_open-among}
use Rattle.journal.proofs.Turns.{conflicts_in_turn, own_changes_in_turn, prefixes_in_turn}
use Rattle.journal.proofs.Places.{take_front}
use Rattle.journal.proofs.AloneReads.{alone_is, both, not_ended, open_parts, read_accepted, snapshot_is}
use Rattle.journal.proofs.SerialOrder.{accepted_all, IsSound, named_open}
use Rattle.journal.proofs.SerialParts.{at_place, idle_delta, neither, own_late, unnamed_done, unnamed_found}

-- The block so far

-- the serial journal with the entries of a transaction so far behind it
abbrev pub out : Limits → ℕ → List Entry → List Judged → List Entry
out limits place S q = S ++ map (renamed (at_place (length S))) (entries_of limits q (at_place place))

abbrev pub now : Limits → ℕ → List Entry → List Judged → List Judged
now limits place S q = accepted_all (out limits place S q)

-- what holds there so far
pub record InBlock (limits : Limits) (place : ℕ) (S : List Entry) (q : List Judged) : Type 0 where
  pub judged_is : judged limits (out limits place S q) ≡ now limits place S q
  pub open_is : open_txns limits (now limits place S q) ≡ (if nat_lt place (length q) then at_place (length S) ∷ [] else [])
  pub changes_are : committed_changes limits (now limits place S q) ≡ committed_changes limits (accepted_all S)
  pub prefixes_are : prefixes_of limits (now limits place S q) ≡ prefixes_of limits (accepted_all S)
  pub own_is : own_changes limits (now limits place S q) (at_place (length S)) ≡ own_changes limits q (at_place place)
  pub deltas_are : place < length q → deltas_since limits (now limits place S q) (at_place (length S)) ≡ []
  pub none_early : length q ≤ place → entries_of limits q (at_place place) ≡ []

-- an accepted entry, renamed
abbrev pub renewed : List Entry → Entry → Judged
renewed S e = record { entry = renamed (at_place (length S)) e; accepted = true }

-- what holds of the next entry of the transaction
pub record IsServed (limits : Limits) (place : ℕ) (S : List Entry) (q : List Judged) (e : Entry) : Type 0 where
  pub late : place ≤ length q
  pub accepted : is_accepted limits (now limits place S q) (renamed (at_place (length S)) e) ≡ true
  pub reply : reply_to limits (now limits place S q) (renamed (at_place (length S)) e) ≡ renamed_reply (at_place (length S)) (reply_to limits q e)
  pub applied : applied_changes limits (now limits place S q) (renewed S e) ≡ []
  pub opened : open_txns limits (now limits place S q ++ renewed S e ∷ []) ≡ at_place (length S) ∷ []
  pub own : own_changes limits (renewed S e ∷ []) (at_place (length S)) ≡ own_changes limits (record { entry = e; accepted = true } ∷ []) (at_place place)
  pub prefixes : (pairs : List (List ℕ × List ℕ)) → prefixes_behind pairs (renamed (at_place (length S)) e).op ≡ pairs
  pub deltas : deltas_since limits (now limits place S q ++ renewed S e ∷ []) (at_place (length S)) ≡ []

-- a past in which the transaction may commit, and the serial journal of it
module _ (limits : Limits) (place : ℕ) (S : List Entry) (p : List Judged) (room : 1 ≤ limits.txns) (sound : IsSound limits p)
    (is : is_open limits p (at_place place) ≡ true) (no_clash : clash_at limits p (at_place place) ≡ None)
    (base_judged : judged limits S ≡ accepted_all S) (base_open : open_txns limits (accepted_all S) ≡ [])
    (base_changes : committed_changes limits (accepted_all S) ≡ committed_changes limits p) where
  abbrev t : Txn
  t = at_place place

  abbrev u : Txn
  u = at_place (length S)

  long_base : length (accepted_all S) ≡ length S
  long_base = length-map S _

  -- the Begin

  begin_here : (A : List Judged) (v : Txn) → open_txns limits A ≡ [] → begin_reply limits A v ≡ reply.Begun v
  begin_here A v none =
      let few : nat_le limits.txns 0 ≡ false = grind (arith, nat_tests, room) in
      ap (λ ts. cond (nat_le limits.txns (length ts)) reply.TooManyOpen (reply.Begun v)) none ∙ ap (λ b. cond b reply.TooManyOpen (reply.Begun v)) few

  begun_alike : (v : Txn) (b : Bool) → not (is_refusal (cond b reply.TooManyOpen (reply.Begun v))) ≡ true → renamed_reply u (cond b reply.TooManyOpen (reply.Begun v)) ≡ reply.Begun u
  begun_alike v true e = absurd (true≢false (sym e))
  begun_alike v false e = refl

  begin_served : (q : List Judged) (seat : ℕ) → length q ≡ place → is_accepted limits q (entry_of seat (Begin Serializable)) ≡ true → InBlock limits place S q → IsServed limits place S q (entry_of seat (Begin Serializable))
  unfolding is_accepted reply_to applied_changes own_changes
  begin_served q seat at accepted b =
      let x : Judged = record { entry = entry_of seat (Begin Serializable); accepted = true } in
      let early : entries_of limits q t ≡ [] = b.none_early (omega arith) in
      let here : now limits place S q ≡ accepted_all S = ap accepted_all (ap (λ es. S ++ map (renamed u) es) early ∙ append-nil S) in
      let name : begin_reply limits (now limits place S q) (at_place (length (now limits place S q))) ≡ reply.Begun u =
      ap (λ a. begin_reply limits a (at_place (length a))) here ∙ (begin_here (accepted_all S) (at_place (length (accepted_all S))) base_open ∙ ap (λ n. reply.Begun (at_place n)) long_base) in
      let long = length-append (accepted_all S) (x ∷ []) in
      record {
        late = omega arith;
        accepted = ap (λ r. not (is_refusal r)) name;
        reply = name ∙ sym (begun_alike (at_place (length q)) (nat_le limits.txns (length (open_txns limits q))) accepted);
        applied = refl;
        opened = ap (λ a. open_txns limits (a ++ x ∷ [])) here ∙ (open_txns-push limits (accepted_all S) x ∙ ((λ i. filter (λ v. not (ends v x)) (base_open i) ++ at_place (long_base i) ∷ [])));
        own = refl;
        prefixes = λ pairs. refl;
        deltas = ap (λ a. deltas_since limits (a ++ x ∷ []) u) here ∙ late_deltas (accepted_all S ++ x ∷ []) (omega (arith, long, long_base));
      }
    where
      late_deltas : (a : List Judged) → length a ≤ length S + 1 → deltas_since limits a u ≡ []
      late_deltas a le = ap (λ r. joined_from (take (length S + 1) a) (delta_at limits) r) (drop_of_length-le a le)

  -- the entries that name it

  open_now : (q : List Judged) → InBlock limits place S q → place < length q → open_txns limits (now limits place S q) ≡ u ∷ []
  open_now q b lt = b.open_is ∙ ap (λ c. cond c (u ∷ []) []) (lt-ltb place (length q) lt)

  is_open_now : (q : List Judged) → InBlock limits place S q → place < length q → is_open limits (now limits place S q) u ≡ true
  is_open_now q b lt = is_open-among limits (now limits place S q) u ∙ (ap (list_any (is_txn u)) (open_now q b lt) ∙ ap (λ c. c || false) (txn_itself u))

  opened_behind : (q : List Judged) → InBlock limits place S q → place < length q → (x : Judged) → ends u x ≡ false → begun_now (length (now limits place S q)) x ≡ []
      → open_txns limits (now limits place S q ++ x ∷ []) ≡ u ∷ []
  opened_behind q b lt x stays begins_none =
      open_txns-push limits (now limits place S q) x
      ∙ ((λ i. filter (λ v. not (ends v x)) (open_now q b lt i) ++ begins_none i)
      ∙ ap (λ c. cond (not c) (u ∷ []) [] ++ []) stays)

  deltas_behind : (q : List Judged) → InBlock limits place S q → place < length q → (x : Judged) → applied_changes limits (now limits place S q) x ≡ []
      → deltas_since limits (now limits place S q ++ x ∷ []) u ≡ []
  deltas_behind q b lt x none =
      conflicts_in_turn.deltas limits (now limits place S q) x u (open_parts limits (now limits place S q) u (is_open_now q b lt)).0
      ∙ (λ i. b.deltas_are lt i ++ idle_delta limits (now limits place S q) x none i)

  -- what the transaction sees in its block
  view_now : (q : List Judged) → InBlock limits place S q → view_at limits (now limits place S q) (Some u) ≡ content (committed_changes limits p ++ own_changes limits q t)
  view_now q b =
      let es : List Entry = map (renamed u) (entries_of limits q t) in
      let front : take (length S) (now limits place S q) ≡ accepted_all S = ap (take (length S)) (map-append _ S es) ∙ take_front (accepted_all S) (accepted_all es) (length S) long_base in
      snapshot_is limits (now limits place S q) u refl ∙ (λ i. content ((ap (committed_changes limits) front ∙ base_changes) i ++ b.own_is i))

  read_served : (q : List Judged) (seat : ℕ) (a : Ask) (r : List Judged) → q ++ record { entry = entry_of seat (Read (Some t) a); accepted = true } ∷ r ≡ p
      → is_accepted limits q (entry_of seat (Read (Some t) a)) ≡ true → InBlock limits place S q → IsServed limits place S q (entry_of seat (Read (Some t) a))
  unfolding is_accepted applied_changes own_changes
  read_served q seat a r split accepted b =
      let e : Entry = entry_of seat (Read (Some t) a) in
      let x : Judged = renewed S e in
      let before = read_accepted limits q seat t a accepted in
      let lt : place < length q = (open_parts limits q t before.0).0 in
      let behind = read_accepted limits (now limits place S q) seat u a (is_open_now q b lt) in
      let found_there : List Judged → Reply = λ past. found a (content (committed_changes limits past ++ own_changes limits q t) ∷ []) limits.rows in
      let alone : reply_to limits q e ≡ found_there p =
      before.1 ∙ (alone_is limits q r seat t a refl lt (ap (λ past. is_open limits past t) split ∙ is) (ap (λ past. clash_at limits past t) split ∙ no_clash) ∙ ap found_there split) in
      record {
        late = omega arith;
        accepted = is_open_now q b lt;
        reply = behind.1 ∙ (ap (λ v. found a (v ∷ []) limits.rows) (view_now q b)
            ∙ (sym (unnamed_found u a (content (committed_changes limits p ++ own_changes limits q t) ∷ []) limits.rows) ∙ ap (renamed_reply u) (sym alone)));
        applied = refl;
        opened = opened_behind q b lt x refl refl;
        own = refl;
        prefixes = λ pairs. refl;
        deltas = deltas_behind q b lt x refl;
      }

  -- a Write or a Ping is done where its transaction is open
  open_done : (q : List Judged) (v : Txn) → is_open limits q v ≡ true → cond (is_open limits q v) reply.Done reply.NoTransaction ≡ reply.Done
  open_done q v live = ap (λ o. cond o reply.Done reply.NoTransaction) live

  write_served : (q : List Judged) (seat : ℕ) (changes : List Change) → is_accepted limits q (entry_of seat (Write (Some t) changes)) ≡ true → InBlock limits place S q → IsServed limits place S q (entry_of seat (Write (Some t) changes))
  unfolding is_accepted reply_to applied_changes own_changes
  write_served q seat changes accepted b =
      let x : Judged = renewed S (entry_of seat (Write (Some t) changes)) in
      let live = named_open limits q seat (Write (Some t) changes) t accepted refl in
      let lt : place < length q = (open_parts limits q t live).0 in
      let done = open_done (now limits place S q) u (is_open_now q b lt) in
      record {
        late = omega arith;
        accepted = ap (λ r. not (is_refusal r)) done;
        reply = done ∙ ap (renamed_reply u) (sym (open_done q t live));
        applied = refl;
        opened = opened_behind q b lt x refl refl;
        own = ap (λ c. cond c changes [] ++ []) (txn_itself u) ∙ sym (ap (λ c. cond c changes [] ++ []) (txn_itself t));
        prefixes = λ pairs. refl;
        deltas = deltas_behind q b lt x refl;
      }

  ping_served : (q : List Judged) (seat : ℕ) → is_accepted limits q (entry_of seat (Ping t)) ≡ true → InBlock limits place S q → IsServed limits place S q (entry_of seat (Ping t))
  unfolding is_accepted reply_to applied_changes own_changes
  ping_served q seat accepted b =
      let x : Judged = renewed S (entry_of seat (Ping t)) in
      let live = named_open limits q seat (Ping t) t accepted refl in
      let lt : place < length q = (open_parts limits q t live).0 in
      let done = open_done (now limits place S q) u (is_open_now q b lt) in
      record {
        late = omega arith;
        accepted = ap (λ r. not (is_refusal r)) done;
        reply = done ∙ ap (renamed_reply u) (sym (open_done q t live));
        applied = refl;
        opened = opened_behind q b lt x refl refl;
        own = refl;
        prefixes = λ pairs. refl;
        deltas = deltas_behind q b lt x refl;
      }

  -- any entry of the transaction

  abbrev accepted_of : ℕ → Op → Judged
  accepted_of seat op = record { entry = entry_of seat op; accepted = true }

  -- none has ended it
  no_end : (q : List Judged) (seat : ℕ) (op : Op) (r : List Judged) → q ++ accepted_of seat op ∷ r ≡ p → named_txn op ≡ Some t → is_accepted limits q (entry_of seat op) ≡ true → ends t (accepted_of seat op) ≡ false
  no_end q seat op r split names accepted =
      not_ended limits q (accepted_of seat op) r t (ap (λ past. is_open limits past t) split ∙ is) (open_parts limits q t (named_open limits q seat op t accepted names)).0

  served : (q : List Judged) (seat : ℕ) (op : Op) (r : List Judged) → q ++ accepted_of seat op ∷ r ≡ p → is_of t (length q) op ≡ true → InBlock limits place S q → IsServed limits place S q (entry_of seat op)
  served q seat op r split mine b = at op split mine (sym (sound q (accepted_of seat op) r split).accepts)
    where
      -- the transaction that is named is t
      named : (op : Txn → Op) (v : Txn) → (q ++ accepted_of seat (op t) ∷ r ≡ p → is_accepted limits q (entry_of seat (op t)) ≡ true → IsServed limits place S q (entry_of seat (op t)))
          → is_txn t v ≡ true → q ++ accepted_of seat (op v) ∷ r ≡ p → is_accepted limits q (entry_of seat (op v)) ≡ true → IsServed limits place S q (entry_of seat (op v))
      named op v facts same = subst (λ w. q ++ accepted_of seat (op w) ∷ r ≡ p → is_accepted limits q (entry_of seat (op w)) ≡ true → IsServed limits place S q (entry_of seat (op w))) (txn_is t v same) facts

      begin_at : (l : Level) → (nat_eq (length q) place && is_level Serializable l) ≡ true → is_accepted limits q (entry_of seat (Begin l)) ≡ true → IsServed limits place S q (entry_of seat (Begin l))
      begin_at l mine accepted =
          let h = both (nat_eq (length q) place) (is_level Serializable l) mine in
          let same : Serializable ≡ l = level_is Serializable l h.1 in
          subst (λ m. is_accepted limits q (entry_of seat (Begin m)) ≡ true → IsServed limits place S q (entry_of seat (Begin m))) same
          (λ accepted. begin_served q seat (eqb-true (length q) place h.0) accepted b) accepted

      at : (op : Op) → q ++ accepted_of seat op ∷ r ≡ p → is_of t (length q) op ≡ true → is_accepted limits q (entry_of seat op) ≡ true → IsServed limits place S q (entry_of seat op)
      at (Begin l) split mine accepted = begin_at l mine accepted
      at (Read None a) split mine accepted = absurd (true≢false (sym mine))
      at (Read (Some v) a) split mine accepted = named (λ w. Read (Some w) a) v (λ split accepted. read_served q seat a r split accepted b) mine split accepted
      at (Step v query number) split mine accepted =
          let live = named_open limits q seat (Step v query number) v accepted refl in
          let s = sound q (accepted_of seat (Step v query number)) r split in
          absurd (true≢false (sym s.steps ∙ ap (λ l. is_level l ReadCommitted) (s.level v live)))
      at (Write None changes) split mine accepted = absurd (true≢false (sym mine))
      at (Write (Some v) changes) split mine accepted = named (λ w. Write (Some w) changes) v (λ split accepted. write_served q seat changes accepted b) mine split accepted
      at (Commit v) split mine accepted =
          named (λ w. Commit w) v (λ split accepted. absurd (true≢false (sym (txn_itself t) ∙ no_end q seat (Commit t) r split refl accepted))) mine split accepted
      at (Rollback v) split mine accepted =
          named (λ w. Rollback w) v (λ split accepted. absurd (true≢false (sym (txn_itself t) ∙ no_end q seat (Rollback t) r split refl accepted))) mine split accepted
      at (Ping v) split mine accepted = named (λ w. Ping w) v (λ split accepted. ping_served q seat accepted b) mine split accepted
      at (Names names) split mine accepted = absurd (true≢false (sym mine))

  -- one more entry of the past

  kept_more : (q : List Judged) (e : Judged) → entries_of limits (q ++ e ∷ []) t ≡ entries_of limits q t ++ cond (e.accepted && is_of t (length q) e.entry.op) (e.entry ∷ []) []
  unfolding entries_of
  kept_more q e = joined-push (λ before e. cond (e.accepted && is_of t (length before) e.entry.op) (e.entry ∷ []) []) q e

  -- an entry of the transaction goes behind
  put_behind : (q : List Judged) (e : Entry) → entries_of limits (q ++ record { entry = e; accepted = true } ∷ []) t ≡ entries_of limits q t ++ e ∷ []
      → InBlock limits place S q → IsServed limits place S q e → InBlock limits place S (q ++ record { entry = e; accepted = true } ∷ [])
  put_behind q e kept b f =
      let j : Judged = record { entry = e; accepted = true } in
      let x : Entry = renamed u e in
      let es : List Entry = map (renamed u) (entries_of limits q t) in
      let out_is : out limits place S (q ++ j ∷ []) ≡ out limits place S q ++ x ∷ [] =
      ap (λ l. S ++ map (renamed u) l) kept ∙ (ap (λ l. S ++ l) (map-append (renamed u) (entries_of limits q t) (e ∷ [])) ∙ sym (append_assoc S es (x ∷ []))) in
      let now_is : now limits place S (q ++ j ∷ []) ≡ now limits place S q ++ renewed S e ∷ [] = ap accepted_all out_is ∙ map-append _ (out limits place S q) (x ∷ []) in
      let longer = length-append q (j ∷ []) in
      let late = f.late in
      record {
        judged_is =
            ap (judged limits) out_is
            ∙ (judged-push limits (out limits place S q) x
            ∙ ((λ i. b.judged_is i ++ judged_entry limits (b.judged_is i) x ∷ [])
            ∙ (ap (λ a. now limits place S q ++ record { entry = x; accepted = a } ∷ []) f.accepted
            ∙ sym now_is)));
        open_is = ap (open_txns limits) now_is ∙ (f.opened ∙ sym (ap (λ c. cond c (u ∷ []) []) (lt-ltb place (length (q ++ j ∷ [])) (omega arith))));
        changes_are =
            ap (committed_changes limits) now_is
            ∙ (committed_changes-push limits (now limits place S q) (renewed S e)
            ∙ ((λ i. b.changes_are i ++ f.applied i)
            ∙ append-nil (committed_changes limits (accepted_all S))));
        prefixes_are =
            ap (prefixes_of limits) now_is
            ∙ (prefixes_in_turn limits (now limits place S q) (renewed S e)
            ∙ (f.prefixes (prefixes_of limits (now limits place S q))
            ∙ b.prefixes_are));
        own_is =
            ap (λ a. own_changes limits a u) now_is
            ∙ (own_changes_in_turn limits (now limits place S q) (renewed S e) u
            ∙ ((λ i. b.own_is i ++ f.own i)
            ∙ sym (own_changes_in_turn limits q j t)));
        deltas_are = λ lt. ap (λ a. deltas_since limits a u) now_is ∙ f.deltas;
        none_early = λ le. absurd (omega arith);
      }

  -- any other leaves it

  not_written : (n seat : ℕ) (op : Op) (accepted : Bool) → (accepted && is_of t n op) ≡ false → own_changes limits (record { entry = entry_of seat op; accepted = accepted } ∷ []) t ≡ []
  unfolding own_changes
  not_written n seat op accepted other = ap (λ c. c ++ []) (at op accepted other)
    where
      at : (op : Op) (a : Bool) → (a && is_of t n op) ≡ false → cond a (written t op) [] ≡ []
      at (Write (Some v) changes) true other = ap (λ c. cond c changes []) other
      at (Write (Some v) changes) false other = refl
      at (Write None changes) a other = neither a
      at (Begin l) a other = neither a
      at (Read txn ask) a other = neither a
      at (Step v query number) a other = neither a
      at (Commit v) a other = neither a
      at (Rollback v) a other = neither a
      at (Ping v) a other = neither a
      at (Names names) a other = neither a

  begin_is_of : (n : ℕ) (op : Op) → is_begin Serializable op ≡ true → n ≡ place → is_of t n op ≡ true
  begin_is_of n (Begin l) is at = ap (λ c. c && is_level Serializable l) (eq-eqb n place at) ∙ is
  begin_is_of n (Read txn ask) is at = absurd (true≢false (sym is))
  begin_is_of n (Step v query number) is at = absurd (true≢false (sym is))
  begin_is_of n (Write txn changes) is at = absurd (true≢false (sym is))
  begin_is_of n (Commit v) is at = absurd (true≢false (sym is))
  begin_is_of n (Rollback v) is at = absurd (true≢false (sym is))
  begin_is_of n (Ping v) is at = absurd (true≢false (sym is))
  begin_is_of n (Names names) is at = absurd (true≢false (sym is))

  -- it doesn't stand at the place of the Begin
  elsewhere : (q : List Judged) (e : Judged) (r : List Judged) → q ++ e ∷ r ≡ p → (e.accepted && is_of t (length q) e.entry.op) ≡ false → length q ≡ place → ⊥
  elsewhere q e r split other at =
      let got : slice_get p place ≡ Some e = ap (λ n. slice_get p n) (sym at) ∙ (ap (λ past. slice_get past (length q)) (sym split) ∙ slice_get-append_at q e r) in
      let h = both e.accepted (is_begin Serializable e.entry.op) (ap (begins t) (sym got) ∙ (open_parts limits p t is).1) in
      true≢false (sym (λ i. h.0 i && begin_is_of (length q) e.entry.op h.1 at i) ∙ other)

  leave : (q : List Judged) (e : Judged) (r : List Judged) → q ++ e ∷ r ≡ p → (e.accepted && is_of t (length q) e.entry.op) ≡ false → InBlock limits place S q → InBlock limits place S (q ++ e ∷ [])
  leave q e r split other b =
      let kept : entries_of limits (q ++ e ∷ []) t ≡ entries_of limits q t = kept_more q e ∙ (ap (λ c. entries_of limits q t ++ cond c (e.entry ∷ []) []) other ∙ append-nil (entries_of limits q t)) in
      let out_is : out limits place S (q ++ e ∷ []) ≡ out limits place S q = ap (λ l. S ++ map (renamed u) l) kept in
      let now_is : now limits place S (q ++ e ∷ []) ≡ now limits place S q = ap accepted_all out_is in
      let longer = length-append q (e ∷ []) in
      let apart = elsewhere q e r split other in
      let same : nat_lt place (length (q ++ e ∷ [])) ≡ nat_lt place (length q) = beside place (length q) (length (q ++ e ∷ [])) longer apart in
      record {
        judged_is = ap (judged limits) out_is ∙ (b.judged_is ∙ sym now_is);
        open_is = ap (open_txns limits) now_is ∙ (b.open_is ∙ sym (ap (λ c. cond c (u ∷ []) []) same));
        changes_are = ap (committed_changes limits) now_is ∙ b.changes_are;
        prefixes_are = ap (prefixes_of limits) now_is ∙ b.prefixes_are;
        own_is =
            ap (λ a. own_changes limits a u) now_is
            ∙ (b.own_is
            ∙ (sym (append-nil (own_changes limits q t))
            ∙ (ap (λ c. own_changes limits q t ++ c) (sym (not_written (length q) e.entry.seat e.entry.op e.accepted other))
            ∙ sym (own_changes_in_turn limits q e t))));
        deltas_are = λ lt. ap (λ a. deltas_since limits a u) now_is ∙ b.deltas_are (before place (length q) (length (q ++ e ∷ [])) longer apart lt);
        none_early = λ le. kept ∙ b.none_early (omega arith);
      }
    where
      before : (a n m : ℕ) → m ≡ n + 1 → (n ≡ a → ⊥) → a < m → a < n
      before a n m e apart lt = go (nat_lt a n) refl
        where
          go : (c : Bool) → nat_lt a n ≡ c → a < n
          go true k = grind (arith, nat_tests)
          go false k = absurd (apart (grind (arith, nat_tests)))

      beside : (a n m : ℕ) → m ≡ n + 1 → (n ≡ a → ⊥) → nat_lt a m ≡ nat_lt a n
      beside a n m e apart = go (nat_lt a m) refl
        where
          go : (c : Bool) → nat_lt a m ≡ c → c ≡ nat_lt a n
          go true k = sym (lt-ltb a n (before a n m e apart (grind (arith, nat_tests))))
          go false k = grind (arith, nat_tests)

  next : (q : List Judged) (e : Judged) (r : List Judged) → q ++ e ∷ r ≡ p → InBlock limits place S q → InBlock limits place S (q ++ e ∷ [])
  next q e r split b = at e.accepted split
    where
      at : (a : Bool) → q ++ record { entry = e.entry; accepted = a } ∷ r ≡ p → InBlock limits place S (q ++ record { entry = e.entry; accepted = a } ∷ [])
      at false split = leave q (record { entry = e.entry; accepted = false }) r split refl b
      at true split = go (is_of t (length q) e.entry.op) refl
        where
          j : Judged
          j = record { entry = e.entry; accepted = true }

          go : (c : Bool) → is_of t (length q) e.entry.op ≡ c → InBlock limits place S (q ++ j ∷ [])
          go true mine = put_behind q e.entry (kept_more q j ∙ ap (λ c. entries_of limits q t ++ cond c (e.entry ∷ []) []) mine) b (served q e.entry.seat e.entry.op r split mine b)
          go false mine = leave q j r split mine b

  none_yet : InBlock limits place S []
  unfolding entries_of own_changes
  none_yet =
      let here : now limits place S [] ≡ accepted_all S = ap accepted_all (append-nil S) in
      let never : nat_lt place 0 ≡ false = grind (arith, nat_tests) in
      record {
        judged_is = ap (judged limits) (append-nil S) ∙ (base_judged ∙ sym here);
        open_is = ap (open_txns limits) here ∙ (base_open ∙ sym (ap (λ c. cond c (u ∷ []) []) never));
        changes_are = ap (committed_changes limits) here;
        prefixes_are = ap (prefixes_of limits) here;
        own_is = ap (λ a. own_changes limits a u) (here ∙ sym base_judged) ∙ own_late limits S (length S) (omega arith);
        deltas_are = λ lt. absurd (omega arith);
        none_early = λ le. refl;
      }

  -- the block behind any part of the past
  pub block_behind : (q r : List Judged) → q ++ r ≡ p → InBlock limits place S q
  block_behind = by_push (λ q. (r : List Judged) → q ++ r ≡ p → InBlock limits place S q) (λ r split. none_yet)
      (λ q e ih r split.
      let around : q ++ e ∷ r ≡ p = sym (append_assoc q (e ∷ []) r) ∙ split in
      next q e r around (ih (e ∷ r) around))

  -- each entry of the block is served
  pub served_behind : (q : List Judged) (e : Entry) (r : List Judged) → q ++ record { entry = e; accepted = true } ∷ r ≡ p → is_of t (length q) e.op ≡ true → IsServed limits place S q e
  served_behind q e r split mine = served q e.seat e.op r split mine (block_behind q (record { entry = e; accepted = true } ∷ r) split)

  -- The Commit behind the block

  all_behind : InBlock limits place S p
  all_behind = block_behind p [] (append-nil p)

  no_clash_now : clash_at limits (now limits place S p) u ≡ None
  unfolding clash_at
  no_clash_now =
      let ps = observed limits (now limits place S p) u in
      ap (λ D. with_pattern ps (least (filter (one_matches ps) D))) (all_behind.deltas_are (open_parts limits p t is).0)

  open_behind : is_open limits (now limits place S p) u ≡ true
  open_behind = is_open_now p all_behind (open_parts limits p t is).0

  pub commit_reply_is : (seat : ℕ) → reply_to limits (now limits place S p) (entry_of seat (Commit u)) ≡ renamed_reply u (reply_to limits p (entry_of seat (Commit t)))
  unfolding reply_to
  commit_reply_is seat =
      let b = all_behind in
      let here : List Judged → Txn → Reply = λ past v. cond (is_open limits past v) (commit_reply limits past v (clash_at limits past v)) reply.NoTransaction in
      let reply_here : (past : List Judged) (v : Txn) → is_open limits past v ≡ true → clash_at limits past v ≡ None → here past v ≡ done_if_fits limits (committed_changes limits past ++ own_changes limits past v) =
      λ past v o c. (λ i. cond (o i) (commit_reply limits past v (c i)) reply.NoTransaction) in
      reply_here (now limits place S p) u open_behind no_clash_now
      ∙ ((λ i. done_if_fits limits ((b.changes_are ∙ base_changes) i ++ b.own_is i))
      ∙ (sym (unnamed_done u (fits limits (committed_changes limits p ++ own_changes limits p t)))
      ∙ ap (renamed_reply u) (sym (reply_here p t is no_clash))))

  pub commit_accepted_now : (seat : ℕ) → is_accepted limits p (entry_of seat (Commit t)) ≡ true → is_accepted limits (now limits place S p) (entry_of seat (Commit u)) ≡ true
  unfolding is_accepted reply_to
  commit_accepted_now seat accepted =
      ap (λ r. not (is_refusal r)) (commit_reply_is seat) ∙ alike (reply_to limits p (entry_of seat (Commit t))) accepted
    where
      alike : (r : Reply) → not (is_refusal r) ≡ true → not (is_refusal (renamed_reply u r)) ≡ true
      alike (reply.Begun v) e = refl
      alike reply.Done e = e
      alike (reply.Table table) e = e
      alike (reply.Truth truth) e = e
      alike (reply.Quads quads) e = e
      alike (reply.Count count) e = e
      alike (reply.Contexts names) e = e
      alike (reply.Prefixes pairs) e = e
      alike (reply.Prefix name) e = e
      alike reply.NoPrefix e = e
      alike reply.NoTransaction e = e
      alike reply.TooManyOpen e = e
      alike (reply.Conflict pattern quad) e = e
      alike reply.TooLarge e = e
      alike reply.TooManyRows e = e

  pub closed_now : (seat : ℕ) → open_txns limits (now limits place S p ++ record { entry = entry_of seat (Commit u); accepted = true } ∷ []) ≡ []
  closed_now seat =
      let x : Judged = record { entry = entry_of seat (Commit u); accepted = true } in
      open_txns-push limits (now limits place S p) x
      ∙ (ap (λ ts. filter (λ v. not (ends v x)) ts ++ []) (open_now p all_behind (open_parts limits p t is).0)
      ∙ ap (λ c. cond (not c) (u ∷ []) [] ++ []) (txn_itself u))
