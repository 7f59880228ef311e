-- How what is kept for SERIALIZABLE transactions grows by one entry, kind by kind, and what it says of a Commit.
use Rattle.std.proofs.Common.{◌≡◌, ℕ, ◌+◌, ◌<◌, ◌≤◌, Bool, true, false, not, ◌&&◌, cond, List, [], ◌∷◌, ◌++◌, length, take, Some, None, refl, sym, ap, subst, ◌∙◌, arith, append-nil, length-append, nat_eq, nat_lt, ltb-true, eqb-true, eq-eqb, true≢false, drop_of_length-le}
use Rattle.std.specs.Prelude.{Option, nat_le}
use Rattle.std.specs.Option.{IsSome, is_some}
use Rattle.std.specs.BTreeMap.{insert_entry}
use Rattle.std.specs.Ordering.{nat_cmp}
use Rattle.std.proofs.lemmas.Bool.Decides.{nat_tests}
use Rattle.rdf_term.specs.declared.pattern.Pattern.{Pattern}
use Rattle.rdf_term.specs.Sets.{in_order}
use Rattle.journal.specs.declared.level.Level.{Level}
use Rattle.journal.specs.declared.level.Level.TheVariants.{NoIsolation, ReadUncommitted, ReadCommitted, SnapshotRead, Snapshot, Serializable}
use Rattle.journal.specs.declared.txn.Txn.{Txn}
use Rattle.journal.specs.declared.entry.Entry.{Entry}
use Rattle.journal.specs.declared.op.Op.{Op}
use Rattle.journal.specs.declared.op.Op.TheVariants.{Begin, Read, Step, Write, Commit, Rollback, Ping, Names}
use Rattle.journal.specs.declared.limits.Limits.{Limits}
use Rattle.journal.specs.Levels.{is_level, is_txn}
use Rattle.journal.specs.LevelLaws.{level_is, txn_is}
use Rattle.journal.specs.Past.{Judged, begins, ends, is_open, joined_from}
use Rattle.journal.specs.Committed.{committed}
use Rattle.journal.specs.Conflicts.{clash_at, clash_by_level, delta_at, deltas_since, observed, observed_by, with_pattern}
use Rattle.journal.specs.Found.{one_matches, patterns_of}
use Rattle.journal.specs.Replies.{is_accepted}
use Rattle.journal.specs.Journal.{entry_of, judged, judged_entry}
use Rattle.journal.proofs.Growth.{judged-push, length-judged}
use Rattle.journal.proofs.Open.{by_push, is_open-push_new, is_open-push_old, is_open_late}
use Rattle.journal.proofs.Turns.{conflicts_in_turn}
use Rattle.iso_txn.specs.Kept.{Kept, Standing}
use Rattle.iso_txn.specs.Watch.{AllBefore, Changed, IsReady, Watch, Watches, changed_above, clash_among, is_serializable, is_unwatched, nothing_watched, observed_at, observed_in, observing, oldest_or, quads_changed, reader_at, trimmed_to, watch_noted, watched_clash, without_reader}
use Rattle.iso_txn.proofs.Steps.{is_open-below}
use Rattle.iso_txn.proofs.WatchLemmas.{above_more, above_trimmed, before_filter, before_more, both_same, found_inserted, found_set, found_without, least_same, more_before, none_above, nothing_changed, oldest_below, oldest_le}

-- A number is below another one, or it is that one, or it is above
place_case : {P : Type 0} (n m : ℕ) → (n < m → P) → (n ≡ m → P) → (m < n → P) → P
place_case {P = P} n m below at above = go (nat_lt n m) refl (nat_eq n m) refl
  where
    go : (a : Bool) → nat_lt n m ≡ a → (b : Bool) → nat_eq n m ≡ b → P
    go true lt b eq = below (ltb-true n m lt)
    go false lt true eq = at (eqb-true n m eq)
    go false lt false eq = above (grind (arith, nat_tests))

both : (a b : Bool) → (a && b) ≡ true → a ≡ true
both true b h = refl
both false b h = h

and_true : (a : Bool) → (a && true) ≡ a
and_true true = refl
and_true false = refl

-- what the entry behind the past adds to what t observed
abbrev pub more_observed : Limits → List Judged → Judged → Txn → List Pattern
more_observed l p j t = cond j.accepted (observed_by l p t j.entry.op) []

abbrev no_patterns : List Pattern
no_patterns = []

pub cond_none : (b : Bool) → cond b no_patterns [] ≡ []
cond_none true = refl
cond_none false = refl

-- an entry that is judged where t isn't open adds nothing to it
none_read : (l : Limits) (p : List Judged) (t : Txn) → is_open l p t ≡ false → (seat : ℕ) (op : Op) → more_observed l p (judged_entry l p (entry_of seat op)) t ≡ []
unfolding is_accepted
none_read l p t closed seat (Begin level) = cond_none (is_accepted l p (entry_of seat (Begin level)))
none_read l p t closed seat (Read None ask) = cond_none (is_accepted l p (entry_of seat (Read None ask)))
none_read l p t closed seat (Read (Some u) ask) = go (is_txn t u) refl
  where
    go : (b : Bool) → is_txn t u ≡ b → cond (is_open l p u) (cond b (patterns_of ask) []) [] ≡ []
    go true same = ap (λ b. cond b (patterns_of ask) []) (ap (is_open l p) (sym (txn_is t u same)) ∙ closed)
    go false same = cond_none (is_open l p u)
none_read l p t closed seat (Step u query number) = cond_none (is_accepted l p (entry_of seat (Step u query number)))
none_read l p t closed seat (Write txn changes) = cond_none (is_accepted l p (entry_of seat (Write txn changes)))
none_read l p t closed seat (Commit u) = cond_none (is_accepted l p (entry_of seat (Commit u)))
none_read l p t closed seat (Rollback u) = cond_none (is_accepted l p (entry_of seat (Rollback u)))
none_read l p t closed seat (Ping u) = cond_none (is_accepted l p (entry_of seat (Ping u)))
none_read l p t closed seat (Names names) = cond_none (is_accepted l p (entry_of seat (Names names)))

first_none : (l : Limits) (t : Txn) → observed l (judged l []) t ≡ []
unfolding judged observed
first_none l t = refl

-- nobody reads in a transaction that hasn't begun
observed_none : (l : Limits) (t : Txn) (J : List Entry) → length J ≤ t.place → observed l (judged l J) t ≡ []
observed_none l t = by_push (λ J. length J ≤ t.place → observed l (judged l J) t ≡ []) none more
  where
    none : length {A = Entry} [] ≤ t.place → observed l (judged l []) t ≡ []
    none le = first_none l t

    more : (J : List Entry) (e : Entry) → (length J ≤ t.place → observed l (judged l J) t ≡ []) → length (J ++ e ∷ []) ≤ t.place → observed l (judged l (J ++ e ∷ [])) t ≡ []
    more J e ih le =
        let longer : length (J ++ e ∷ []) ≡ length J + 1 = length-append J (e ∷ []) in
        let same : length (judged l J) ≡ length J = length-judged l J in
        let closed : is_open l (judged l J) t ≡ false = is_open_late l (judged l J) t (omega (arith, le, longer, same)) in
        ap (λ p. observed l p t) (judged-push l J e)
        ∙ (conflicts_in_turn.observed l (judged l J) (judged_entry l (judged l J) e) t
        ∙ (λ i. ih (omega (arith, le, longer)) i ++ none_read l (judged l J) t closed e.seat e.op i))

-- a reader is an open transaction, and an open SERIALIZABLE transaction is a reader
reads : (l : Limits) (p : List Judged) (w : Watch) → Watches l p w → (n : ℕ) → is_open l p (reader_at n) ≡ true → IsSome (observed_in n w.readers)
reads l p w m n is = ap is_some (m.readers_are n ∙ ap (λ b. cond b (Some (observed l p (reader_at n))) None) is)

pub read_is_open : (l : Limits) (p : List Judged) (w : Watch) → Watches l p w → (n : ℕ) → IsSome (observed_in n w.readers) → is_open l p (reader_at n) ≡ true
read_is_open l p w m n there = go (is_open l p (reader_at n)) (sym (ap is_some (m.readers_are n)) ∙ there)
  where
    go : (b : Bool) → is_some (cond b (Some (observed l p (reader_at n))) None) ≡ true → b ≡ true
    go true is = refl
    go false is = is

apart_eq : (a b : ℕ) → (a ≡ b → ⊥) → nat_eq a b ≡ false
apart_eq a b not_one = go (nat_eq a b) refl
  where
    go : (r : Bool) → nat_eq a b ≡ r → r ≡ false
    go true is = absurd (not_one (eqb-true a b is))
    go false is = refl

pub and_false : (a : Bool) → (a && false) ≡ false
and_false true = refl
and_false false = refl

module _ (l : Limits) (J : List Entry) (k k' : Kept) (w : Watch) (h : Standing l J k) (m : Watches l (judged l J) w) (seat : ℕ) (op : Op)
    (h' : Standing l (J ++ entry_of seat op ∷ []) k') where
  abbrev past : List Judged
  past = judged l J

  abbrev here : Judged
  here = judged_entry l past (entry_of seat op)

  abbrev next : List Judged
  next = past ++ here ∷ []

  pushed : judged l (J ++ entry_of seat op ∷ []) ≡ next
  pushed = judged-push l J (entry_of seat op)

  long : length past ≡ length J
  long = length-judged l J

  longer : length next ≡ length J + 1
  longer = length-append past (here ∷ []) ∙ ap (λ n. n + 1) long

  -- the delta of the entry
  delta_is : in_order (delta_at l past here) ≡ quads_changed k.content k'.content
  unfolding delta_at
  delta_is = λ i. quads_changed (sym h.content_is i) (sym (h'.content_is ∙ ap (committed l) pushed) i)

  -- what is observed by a transaction that began before, at the entry's place, and later
  observed_before : (n : ℕ) → n < length J
      → observed_at l next n ≡ cond (is_open l past (reader_at n) && not (ends (reader_at n) here)) (Some (observed l past (reader_at n) ++ more_observed l past here (reader_at n))) None
  observed_before n lt = λ i. cond (is_open-push_old l past here (reader_at n) (subst (λ x. n < x) (sym long) lt) i) (Some (conflicts_in_turn.observed l past here (reader_at n) i)) None

  observed_new : (n : ℕ) → n ≡ length J → observed_at l next n ≡ cond (begins (reader_at n) (Some here)) (Some []) None
  observed_new n at =
      let same : n ≡ length past = at ∙ sym long in
      let le : length J ≤ n = omega (arith, at) in
      let closed : is_open l past (reader_at n) ≡ false = is_open_late l past (reader_at n) (omega (arith, le, long)) in
      let nothing : observed l next (reader_at n) ≡ [] = conflicts_in_turn.observed l past here (reader_at n) ∙ (λ i. observed_none l (reader_at n) J le i ++ none_read l past (reader_at n) closed seat op i) in
      λ i. cond (is_open-push_new l past here (reader_at n) same i) (Some (nothing i)) None

  observed_late : (n : ℕ) → length J < n → observed_at l next n ≡ None
  observed_late n lt = ap (λ b. cond b (Some (observed l next (reader_at n))) None) (is_open_late l next (reader_at n) (omega (arith, lt, longer)))

  -- before the entry, no transaction was open that begins there or later
  observed_closed : (n : ℕ) → length J ≤ n → observed_in n w.readers ≡ None
  observed_closed n le = m.readers_are n ∙ ap (λ b. cond b (Some (observed l past (reader_at n))) None) (is_open_late l past (reader_at n) (omega (arith, le, long)))

  -- What is kept behind the entry, where it is known what is kept of readers and of changes
  module _ (readers : List (ℕ × List Pattern)) (changed : List Changed)
      (readers_are : (n : ℕ) → observed_in n readers ≡ observed_at l next n)
      (above : (n : ℕ) → n < length J → is_open l past (reader_at n) ≡ true → changed_above n changed ≡ changed_above n w.changed ++ quads_changed k.content k'.content)
      (below : AllBefore (length J + 1) changed) where
    open_before : (n : ℕ) → n < length J → is_open l next (reader_at n) ≡ true → is_open l past (reader_at n) ≡ true
    open_before n lt is = both (is_open l past (reader_at n)) (not (ends (reader_at n) here)) (sym (is_open-push_old l past here (reader_at n) (subst (λ x. n < x) (sym long) lt)) ∙ is)

    late_not : (n : ℕ) → length J < n → is_open l next (reader_at n) ≡ true → ⊥
    late_not n lt is = true≢false (sym is ∙ is_open_late l next (reader_at n) (omega (arith, lt, longer)))

    changed_old : (n : ℕ) → n < length J → is_open l next (reader_at n) ≡ true → in_order (deltas_since l next (reader_at n)) ≡ in_order (changed_above n changed)
    changed_old n lt is =
        let open_then : is_open l past (reader_at n) ≡ true = open_before n lt is in
        ap in_order (conflicts_in_turn.deltas l past here (reader_at n) (subst (λ x. n < x) (sym long) lt))
        ∙ (both_same (deltas_since l past (reader_at n)) (changed_above n w.changed) (delta_at l past here) (quads_changed k.content k'.content) (m.changed_is n open_then) delta_is
        ∙ ap in_order (sym (above n lt open_then)))

    changed_new : (n : ℕ) → n ≡ length J → in_order (deltas_since l next (reader_at n)) ≡ in_order (changed_above n changed)
    changed_new n at =
        ap (λ es. in_order (joined_from (take (n + 1) next) (delta_at l) es)) (drop_of_length-le next (omega (arith, at, longer)))
        ∙ ap in_order (sym (none_above n changed (subst (λ x. AllBefore (x + 1) changed) (sym at) below)))

    grown_next : Watches l next (record { readers = readers; changed = changed; trimmed = w.trimmed })
    grown_next = record {
      readers_are = readers_are;
      changed_is = λ n is. place_case n (length J) (λ lt. changed_old n lt is) (λ at. changed_new n at) (λ lt. absurd (late_not n lt is));
      untrimmed = λ n is. place_case n (length J) (λ lt. m.untrimmed n (open_before n lt is)) (λ at. (let le = m.trimmed_below in omega (arith, le, at, long))) (λ lt. absurd (late_not n lt is));
      trimmed_below = (let le = m.trimmed_below in omega (arith, le, long, longer));
      below = subst (λ x. AllBefore x changed) (sym longer) below;
    }

    pub grown : Watches l (judged l (J ++ entry_of seat op ∷ [])) (record { readers = readers; changed = changed; trimmed = w.trimmed })
    grown = subst (λ p. Watches l p (record { readers = readers; changed = changed; trimmed = w.trimmed })) (sym pushed) grown_next

  old_below : AllBefore (length J + 1) w.changed
  old_below = more_before (length past) (length J + 1) (omega (arith, long)) w.changed m.below

  -- an entry that changes nothing
  pub grown_quiet : (readers : List (ℕ × List Pattern)) → ((n : ℕ) → observed_in n readers ≡ observed_at l next n) → k'.content ≡ k.content
      → Watches l (judged l (J ++ entry_of seat op ∷ [])) (record w { readers = readers })
  grown_quiet readers readers_are same =
      grown readers w.changed readers_are
      (λ n lt is. sym (ap (λ quads. changed_above n w.changed ++ quads) (ap (quads_changed k.content) same ∙ nothing_changed k.content) ∙ append-nil (changed_above n w.changed)))
      old_below

  -- an entry that may change quads
  pub grown_noted : (readers : List (ℕ × List Pattern)) → ((n : ℕ) → observed_in n readers ≡ observed_at l next n)
      → Watches l (judged l (J ++ entry_of seat op ∷ [])) (record (watch_noted (length J) (quads_changed k.content k'.content) w) { readers = readers })
  grown_noted readers readers_are = go w.readers refl
    where
      noted : Changed
      noted = record { place = length J; quads = quads_changed k.content k'.content }

      watched : Bool → Watch
      watched b = record (cond b w (record w { changed = w.changed ++ noted ∷ [] })) { readers = readers }

      unread : (n : ℕ) → w.readers ≡ [] → is_open l past (reader_at n) ≡ true → ⊥
      unread n none is = absurd (true≢false (ap is_some (sym (ap (λ b. cond b (Some (observed l past (reader_at n))) None) is) ∙ (sym (m.readers_are n) ∙ ap (observed_in n) none))))

      go : (rs : List (ℕ × List Pattern)) → w.readers ≡ rs → Watches l (judged l (J ++ entry_of seat op ∷ [])) (watched (is_unwatched rs))
      go [] none = grown readers w.changed readers_are (λ n lt is. absurd (unread n none is)) old_below
      go (r ∷ rs) some =
          grown readers (w.changed ++ noted ∷ []) readers_are (λ n lt is. above_more n w.changed noted lt)
          (before_more (length past) (length J + 1) (omega (arith, long)) w.changed noted m.below (omega arith))

  -- The readers behind the entry

  -- of a transaction that began before, where the entry neither ends it nor reads in it
  old_same : (n : ℕ) → n < length J → ends (reader_at n) here ≡ false → more_observed l past here (reader_at n) ≡ [] → observed_in n w.readers ≡ observed_at l next n
  old_same n lt stays unread =
      let open_still : (is_open l past (reader_at n) && not (ends (reader_at n) here)) ≡ is_open l past (reader_at n) = ap (λ b. is_open l past (reader_at n) && not b) stays ∙ and_true (is_open l past (reader_at n)) in
      let same : observed l past (reader_at n) ++ more_observed l past here (reader_at n) ≡ observed l past (reader_at n) = ap (λ r. observed l past (reader_at n) ++ r) unread ∙ append-nil (observed l past (reader_at n)) in
      m.readers_are n ∙ sym (observed_before n lt ∙ (λ i. cond (open_still i) (Some (same i)) None))

  -- of one that isn't begun
  new_none : (n : ℕ) → length J ≤ n → begins (reader_at n) (Some here) ≡ false → observed_in n w.readers ≡ observed_at l next n
  new_none n le unbegun =
      observed_closed n le
      ∙ place_case n (length J) (λ lt. absurd (omega (arith, lt, le))) (λ at. sym (observed_new n at ∙ ap (λ b. cond b (Some []) None) unbegun)) (λ lt. sym (observed_late n lt))

  -- an entry that begins, ends and reads nothing
  pub readers_same : ((n : ℕ) → ends (reader_at n) here ≡ false) → ((n : ℕ) → more_observed l past here (reader_at n) ≡ []) → ((n : ℕ) → begins (reader_at n) (Some here) ≡ false)
      → (n : ℕ) → observed_in n w.readers ≡ observed_at l next n
  readers_same stays unread unbegun n =
      place_case n (length J) (λ lt. old_same n lt (stays n) (unread n)) (λ at. new_none n (omega (arith, at)) (unbegun n)) (λ lt. new_none n (omega (arith, lt)) (unbegun n))

  -- one that begins a SERIALIZABLE transaction
  pub readers_begun : ((n : ℕ) → ends (reader_at n) here ≡ false) → ((n : ℕ) → more_observed l past here (reader_at n) ≡ []) → ((n : ℕ) → begins (reader_at n) (Some here) ≡ true)
      → (n : ℕ) → observed_in n (insert_entry nat_cmp w.readers (length J) []) ≡ observed_at l next n
  readers_begun stays unread begun n =
      found_inserted (length J) [] w.readers n
      ∙ place_case n (length J)
      (λ lt. pick false (apart_eq n (length J) (λ is. absurd (omega (arith, lt, is)))) ∙ old_same n lt (stays n) (unread n))
      (λ at. pick true (eq-eqb n (length J) at) ∙ sym (observed_new n at ∙ ap (λ b. cond b (Some []) None) (begun n)))
      (λ lt. pick false (apart_eq n (length J) (λ is. absurd (omega (arith, lt, is)))) ∙ (observed_closed n (omega (arith, lt)) ∙ sym (observed_late n lt)))
    where
      pick : (b : Bool) → nat_eq n (length J) ≡ b → cond (nat_eq n (length J)) (Some []) (observed_in n w.readers) ≡ cond b (Some []) (observed_in n w.readers)
      pick b is = ap (λ b. cond b (Some no_patterns) (observed_in n w.readers)) is

  module _ (u : Txn) (level : is_serializable u ≡ true) (live : is_open l past u ≡ true) (unbegun : (n : ℕ) → begins (reader_at n) (Some here) ≡ false) where
    level_is_so : is_level Serializable u.level ≡ true
    level_is_so = subst (λ v. is_level Serializable v ≡ true) (sym (level_is u.level Serializable level)) refl

    u_is : reader_at u.place ≡ u
    u_is = λ i. record { place = u.place; level = sym (level_is u.level Serializable level) i }

    u_before : u.place < length J
    u_before = subst (λ x. u.place < x) long (is_open-below l past u live)

    same_txn : (n : ℕ) → is_txn (reader_at n) u ≡ nat_eq n u.place
    same_txn n = ap (λ b. nat_eq n u.place && b) level_is_so ∙ and_true (nat_eq n u.place)

    later : (n : ℕ) → length J ≤ n → nat_eq n u.place ≡ false
    later n le = apart_eq n u.place (λ is. (let lt = u_before in absurd (omega (arith, le, lt, is))))

    -- one that reads in an open SERIALIZABLE transaction
    pub readers_read : (patterns : List Pattern) → ((n : ℕ) → ends (reader_at n) here ≡ false) → ((n : ℕ) → more_observed l past here (reader_at n) ≡ cond (is_txn (reader_at n) u) patterns [])
        → (n : ℕ) → observed_in n (observing u.place patterns (observed_in u.place w.readers) w.readers) ≡ observed_at l next n
    readers_read patterns stays adds n =
        ap (λ o. observed_in n (observing u.place patterns o w.readers)) there
        ∙ (found_set u.place (before ++ patterns) before w.readers n there
        ∙ place_case n (length J) (λ lt. old lt) (λ at. new (omega (arith, at))) (λ lt. new (omega (arith, lt))))
      where
        before : List Pattern
        before = observed l past (reader_at u.place)

        there : observed_in u.place w.readers ≡ Some before
        there = m.readers_are u.place ∙ ap (λ b. cond b (Some before) None) (ap (is_open l past) u_is ∙ live)

        found : Bool → Option (List Pattern)
        found b = cond b (Some (before ++ patterns)) (observed_in n w.readers)

        new : length J ≤ n → found (nat_eq n u.place) ≡ observed_at l next n
        new le = ap found (later n le) ∙ new_none n le (unbegun n)

        old : n < length J → found (nat_eq n u.place) ≡ observed_at l next n
        old lt = go (nat_eq n u.place) refl
          where
            go : (b : Bool) → nat_eq n u.place ≡ b → found b ≡ observed_at l next n
            go false is = old_same n lt (stays n) (adds n ∙ ap (λ b. cond b patterns []) (same_txn n ∙ is))
            go true is =
                let at : reader_at n ≡ reader_at u.place = ap reader_at (eqb-true n u.place is) in
                let open_then : (is_open l past (reader_at n) && not (ends (reader_at n) here)) ≡ true = ap (λ b. is_open l past (reader_at n) && not b) (stays n) ∙ (and_true (is_open l past (reader_at n)) ∙ (ap (is_open l past) (at ∙ u_is) ∙ live)) in
                let more : more_observed l past here (reader_at n) ≡ patterns = adds n ∙ ap (λ b. cond b patterns []) (same_txn n ∙ is) in
                sym (observed_before n lt ∙ (λ i. cond (open_then i) (Some (observed l past (at i) ++ more i)) None))

    -- one that ends an open SERIALIZABLE transaction
    pub readers_ended : ((n : ℕ) → more_observed l past here (reader_at n) ≡ []) → ((n : ℕ) → ends (reader_at n) here ≡ is_txn (reader_at n) u)
        → (n : ℕ) → observed_in n (without_reader u.place w.readers) ≡ observed_at l next n
    readers_ended unread ends_are n =
        found_without u.place w.readers n ∙ place_case n (length J) (λ lt. old lt) (λ at. new (omega (arith, at))) (λ lt. new (omega (arith, lt)))
      where
        found : Bool → Option (List Pattern)
        found b = cond (not b) (observed_in n w.readers) None

        new : length J ≤ n → found (nat_eq n u.place) ≡ observed_at l next n
        new le = ap found (later n le) ∙ new_none n le (unbegun n)

        old : n < length J → found (nat_eq n u.place) ≡ observed_at l next n
        old lt = go (nat_eq n u.place) refl
          where
            go : (b : Bool) → nat_eq n u.place ≡ b → found b ≡ observed_at l next n
            go false is = old_same n lt (ends_are n ∙ (same_txn n ∙ is)) (unread n)
            go true is =
                let gone : (is_open l past (reader_at n) && not (ends (reader_at n) here)) ≡ false = ap (λ b. is_open l past (reader_at n) && not b) (ends_are n ∙ (same_txn n ∙ is)) ∙ and_false (is_open l past (reader_at n)) in
                sym (observed_before n lt ∙ ap (λ b. cond b (Some (observed l past (reader_at n) ++ more_observed l past here (reader_at n))) None) gone)

-- Dropping what is older than every reader

pub trimmed : (l : Limits) (p : List Judged) (w : Watch) (before : ℕ) → before ≤ length p → ((n : ℕ) → IsSome (observed_in n w.readers) → before ≤ n + 1) → Watches l p w → Watches l p (trimmed_to before w)
trimmed l p w before le least m = record {
  readers_are = m.readers_are;
  changed_is = λ n is. m.changed_is n is ∙ ap in_order (sym (above_trimmed n before (least n (reads l p w m n is)) w.changed));
  untrimmed = λ n is. (let one = m.untrimmed n is in let two = least n (reads l p w m n is) in omega (arith, one, two));
  trimmed_below = (let most = m.trimmed_below in omega (arith, most, le));
  below = before_filter (length p) (λ (it : Changed). nat_le before it.place) w.changed m.below;
}

pub trimmed_oldest : (l : Limits) (p : List Judged) (w : Watch) → Watches l p w → Watches l p (trimmed_to (oldest_or (length p) w.readers) w)
trimmed_oldest l p w m =
    trimmed l p w (oldest_or (length p) w.readers)
    (oldest_below (length p) w.readers (λ n there. is_open-below l p (reader_at n) (read_is_open l p w m n there)))
    (λ n there. (let le = oldest_le (length p) n w.readers there in omega (arith, le))) m

-- What is kept, before the next entry

-- it is ready for that
pub ready : (l : Limits) (J : List Entry) (w : Watch) → Watches l (judged l J) w → IsReady (length J) w
ready l J w m = record {
  below = subst (λ n. AllBefore n w.changed) (length-judged l J) m.below;
  untrimmed = λ n patterns found. m.untrimmed n (read_is_open l (judged l J) w m n (ap is_some found));
}

-- it has the clash of a Commit of an open transaction
pub clash_kept : (l : Limits) (p : List Judged) (w : Watch) → Watches l p w → (t : Txn) → is_open l p t ≡ true → clash_at l p t ≡ watched_clash w t
unfolding clash_at
clash_kept l p w m t live = go t.level refl
  where
    go : (v : Level) → t.level ≡ v → clash_by_level v l p t ≡ cond (is_level v Serializable) (clash_among (observed_in t.place w.readers) (changed_above t.place w.changed)) None
    go NoIsolation is = refl
    go ReadUncommitted is = refl
    go ReadCommitted is = refl
    go SnapshotRead is = refl
    go Snapshot is = refl
    go Serializable is =
        let at : reader_at t.place ≡ t = λ i. record { place = t.place; level = sym is i } in
        let live_there : is_open l p (reader_at t.place) ≡ true = ap (is_open l p) at ∙ live in
        let there : observed_in t.place w.readers ≡ Some (observed l p t) = m.readers_are t.place ∙ (λ i. cond (live_there i) (Some (observed l p (at i))) None) in
        let same : in_order (deltas_since l p t) ≡ in_order (changed_above t.place w.changed) = ap (λ t. in_order (deltas_since l p t)) (sym at) ∙ m.changed_is t.place live_there in
        ap (with_pattern (observed l p t)) (least_same (one_matches (observed l p t)) (deltas_since l p t) (changed_above t.place w.changed) same)
        ∙ ap (λ o. clash_among o (changed_above t.place w.changed)) (sym there)

-- of a journal without entries
pub watches_none : (l : Limits) → Watches l (judged l []) nothing_watched
watches_none l = record {
  readers_are = λ n. sym (ap (λ b. cond b (Some (observed l (judged l []) (reader_at n))) None) (closed n));
  changed_is = λ n is. absurd (true≢false (sym is ∙ closed n));
  untrimmed = λ n is. absurd (true≢false (sym is ∙ closed n));
  trimmed_below = omega arith;
  below = tt;
}
  where
    closed : (n : ℕ) → is_open l (judged l []) (reader_at n) ≡ false
    closed n = is_open_late l (judged l []) (reader_at n) (let none = length-judged l [] in omega (arith, none))
