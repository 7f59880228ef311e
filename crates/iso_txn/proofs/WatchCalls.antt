-- What each call leaves for SERIALIZABLE transactions.
use Rattle.std.proofs.Common.{◌≡◌, ℕ, ◌+◌, Bool, true, false, not, ◌&&◌, cond, List, [], ◌∷◌, ◌++◌, length, Some, None, refl, sym, ap, subst, ◌∙◌, nat_eq, length-append}
use Rattle.std.specs.Prelude.{Option}
use Rattle.std.specs.Option.{is_some}
use Rattle.std.specs.BTreeMap.{insert_entry}
use Rattle.std.specs.Ordering.{nat_cmp}
use Rattle.rdf_term.specs.declared.pattern.Pattern.{Pattern}
use Rattle.rdf_term.specs.Statement.{Statement}
use Rattle.change_set.specs.declared.change.Change.{Change}
use Rattle.change_set.specs.Content.{applied}
use Rattle.query_model.specs.declared.query.Query.{Query}
use Rattle.journal.specs.declared.level.Level.{Level}
use Rattle.journal.specs.declared.level.Level.TheVariants.{Serializable}
use Rattle.journal.specs.declared.txn.Txn.{Txn}
use Rattle.journal.specs.declared.ask.Ask.{Ask}
use Rattle.journal.specs.declared.entry.Entry.{Entry}
use Rattle.journal.specs.declared.op.NamesOp.{NamesOp}
use Rattle.journal.specs.declared.op.Op.{Op}
use Rattle.journal.specs.declared.op.Op.TheVariants.{Begin, Read, Step, Write, Commit, Rollback, Ping, Names}
use Rattle.journal.specs.declared.limits.Limits.{Limits}
use Rattle.journal.specs.Levels.{commits_at_once, is_level, is_txn}
use Rattle.journal.specs.LevelLaws.{level_equiv, level_is}
use Rattle.journal.specs.Past.{Judged, is_begin, is_end, is_open}
use Rattle.journal.specs.Committed.{prefixes_with}
use Rattle.journal.specs.Conflicts.{observed, observed_by}
use Rattle.journal.specs.Found.{patterns_of}
use Rattle.journal.specs.Replies.{is_accepted, is_refusal, names_reply, within}
use Rattle.journal.specs.Journal.{entry_of, judged, judged_entry}
use Rattle.journal.proofs.Growth.{length-judged}
use Rattle.iso_txn.specs.Kept.{Kept, Standing, base_at, begin_kept, changed_kept, commit_kept, committed_kept, content_with_own, ended, is_among, is_crowded, lives, names_kept, rollback_kept, waiting, write_kept}
use Rattle.iso_txn.specs.Watch.{Watch, Watches, is_serializable, is_unwatched, observed_at, observed_in, observing, oldest_or, quads_changed, reader_at, trimmed_to, watch_begun, watch_ended, watch_noted, watch_read, watched_clash, without_reader}
use Rattle.iso_txn.proofs.Calls.{alive, begin_accepted, begin_stands, commit_accepted, commit_stands, rollback_accepted, rollback_stands, write_stands}
use Rattle.iso_txn.proofs.WatchGrowth.{and_false, cond_none, grown_noted, grown_quiet, readers_begun, readers_ended, readers_read, readers_same, trimmed_oldest}

-- the level of another transaction
other_level : (a b : Level) → is_level a b ≡ false → is_level b a ≡ false
other_level a b differ = level_equiv.symm b a ∙ differ

-- a SERIALIZABLE transaction is known by its place
reader_is : (u : Txn) → is_serializable u ≡ true → reader_at u.place ≡ u
reader_is u level = λ i. record { place = u.place; level = sym (level_is u.level Serializable level) i }

with_readers : (w : Watch) (rs : List (ℕ × List Pattern)) → w.readers ≡ rs → (let left : Watch = record w { readers = rs } in left) ≡ w
with_readers w rs same = λ i. record w { readers = sym same i }

-- what is noted leaves the readers
same_readers_if : (b : Bool) (w v : Watch) → w.readers ≡ v.readers → (let left : Watch = cond b w v in left.readers) ≡ w.readers
same_readers_if true w v same = refl
same_readers_if false w v same = sym same

module _ (l : Limits) (J : List Entry) (k : Kept) (h : Standing l J k) (m : Watches l (judged l J) k.watch) where
  abbrev behind : ℕ → Op → List Judged
  behind seat op = judged l (J ++ entry_of seat op ∷ [])

  abbrev accepted_at : ℕ → Op → Bool
  accepted_at seat op = is_accepted l (judged l J) (entry_of seat op)

  noted_readers : (quads : List Statement) → (watch_noted (length J) quads k.watch).readers ≡ k.watch.readers
  noted_readers quads = same_readers_if (is_unwatched k.watch.readers) k.watch (record k.watch { changed = k.watch.changed ++ record { place = length J; quads = quads } ∷ [] }) refl

  -- a refused entry
  refused_watch : (seat : ℕ) (op : Op) → accepted_at seat op ≡ false → Standing l (J ++ entry_of seat op ∷ []) k → Watches l (behind seat op) k.watch
  refused_watch seat op is stands =
      grown_quiet l J k k k.watch h m seat op stands k.watch.readers
      (readers_same l J k k k.watch h m seat op stands
      (λ n. ap (λ b. b && is_end (reader_at n) op) is)
      (λ n. ap (λ b. cond b (observed_by l (judged l J) (reader_at n) op) []) is)
      (λ n. ap (λ b. b && is_begin Serializable op) is))
      refl

  -- an entry that names no SERIALIZABLE transaction, but for a Write in it
  abbrev IsBystander : Op → Type 0
  IsBystander op = ((n : ℕ) → is_end (reader_at n) op ≡ false) × ((n : ℕ) → observed_by l (judged l J) (reader_at n) op ≡ []) × (is_begin Serializable op ≡ false)

  module _ (seat : ℕ) (op : Op) (by : IsBystander op) (k' : Kept) (stands : Standing l (J ++ entry_of seat op ∷ []) k') where
    same_readers : (n : ℕ) → observed_in n k.watch.readers ≡ observed_at l (judged l J ++ judged_entry l (judged l J) (entry_of seat op) ∷ []) n
    same_readers =
        readers_same l J k k' k.watch h m seat op stands
        (λ n. ap (λ b. accepted_at seat op && b) (by.0 n) ∙ and_false (accepted_at seat op))
        (λ n. ap (λ r. cond (accepted_at seat op) r []) (by.1 n) ∙ cond_none (accepted_at seat op))
        (λ n. ap (λ b. accepted_at seat op && b) by.2 ∙ and_false (accepted_at seat op))

    bystander_watch : k'.content ≡ k.content → Watches l (behind seat op) k.watch
    bystander_watch same = grown_quiet l J k k' k.watch h m seat op stands k.watch.readers same_readers same

    bystander_noted : Watches l (behind seat op) (watch_noted (length J) (quads_changed k.content k'.content) k.watch)
    bystander_noted =
        let noted : Watch = watch_noted (length J) (quads_changed k.content k'.content) k.watch in
        subst (Watches l (behind seat op)) (with_readers noted k.watch.readers (noted_readers (quads_changed k.content k'.content)))
        (grown_noted l J k k' k.watch h m seat op stands k.watch.readers same_readers)

  -- Begin

  pub begin_watch : (seat : ℕ) (level : Level) → Watches l (behind seat (Begin level)) (begin_kept l k (record { place = length J; level = level })).watch
  begin_watch seat level = go (is_crowded l k) refl (begin_stands l J k h seat level)
    where
      t : Txn
      t = record { place = length J; level = level }

      left : Bool → Kept
      left b = cond b k (record k { open_txns = k.open_txns ++ base_at t k.content ∷ []; watch = watch_begun t k.watch })

      begun : accepted_at seat (Begin level) ≡ true → Standing l (J ++ entry_of seat (Begin level) ∷ []) (left false) → (b : Bool) → is_level level Serializable ≡ b
          → Watches l (behind seat (Begin level)) (cond b (record k.watch { readers = insert_entry nat_cmp k.watch.readers (length J) [] }) k.watch)
      begun is stands true same =
          grown_quiet l J k (left false) k.watch h m seat (Begin level) stands (insert_entry nat_cmp k.watch.readers (length J) [])
          (readers_begun l J k (left false) k.watch h m seat (Begin level) stands
          (λ n. and_false (accepted_at seat (Begin level)))
          (λ n. cond_none (accepted_at seat (Begin level)))
          (λ n. (λ i. is i && (level_equiv.symm Serializable level ∙ same) i)))
          refl
      begun is stands false differ = bystander_watch seat (Begin level) (λ n. refl, λ n. refl, other_level level Serializable differ) (left false) stands refl

      go : (b : Bool) → is_crowded l k ≡ b → Standing l (J ++ entry_of seat (Begin level) ∷ []) (left b) → Watches l (behind seat (Begin level)) (left b).watch
      go true is stands = refused_watch seat (Begin level) (begin_accepted l J k h seat level true is) stands
      go false is stands = begun (begin_accepted l J k h seat level false is) stands (is_level level Serializable) refl

  -- Reads

  accepted_read : (seat : ℕ) (u : Txn) (ask : Ask) → accepted_at seat (Read (Some u) ask) ≡ is_open l (judged l J) u
  unfolding is_accepted
  accepted_read seat u ask = refl

  pub read_watch : (seat : ℕ) (txn : Option Txn) (ask : Ask) → Standing l (J ++ entry_of seat (Read txn ask) ∷ []) k → Watches l (behind seat (Read txn ask)) (watch_read txn (patterns_of ask) k.watch)
  read_watch seat None ask stands = bystander_watch seat (Read None ask) (λ n. refl, λ n. refl, refl) k stands refl
  read_watch seat (Some u) ask stands = go (is_serializable u) (is_open l (judged l J) u) refl refl
    where
      e : Op
      e = Read (Some u) ask

      patterns : List Pattern
      patterns = patterns_of ask

      observes : Watch
      observes = record k.watch { readers = observing u.place patterns (observed_in u.place k.watch.readers) k.watch.readers }

      go : (b o : Bool) → is_serializable u ≡ b → is_open l (judged l J) u ≡ o → Watches l (behind seat e) (cond b observes k.watch)
      go false o level is =
          bystander_watch seat e
          (λ n. refl, λ n. ap (λ b. cond (nat_eq n u.place && b) patterns []) (other_level u.level Serializable level) ∙ ap (λ b. cond b patterns []) (and_false (nat_eq n u.place)), refl)
          k stands refl
      go true false level is =
          let absent : observed_in u.place k.watch.readers ≡ None = m.readers_are u.place ∙ ap (λ b. cond b (Some (observed l (judged l J) (reader_at u.place))) None) (ap (is_open l (judged l J)) (reader_is u level) ∙ is) in
          subst (Watches l (behind seat e)) (ap (λ o. record k.watch { readers = observing u.place patterns o k.watch.readers }) (sym absent))
          (refused_watch seat e (accepted_read seat u ask ∙ is) stands)
      go true true level is =
          let accepted : accepted_at seat e ≡ true = accepted_read seat u ask ∙ is in
          grown_quiet l J k k k.watch h m seat e stands observes.readers
          (readers_read l J k k k.watch h m seat e stands u level is
          (λ n. and_false (accepted_at seat e)) patterns
          (λ n. and_false (accepted_at seat e))
          (λ n. ap (λ b. cond b (cond (is_txn (reader_at n) u) patterns []) []) accepted))
          refl

  pub step_watch : (seat : ℕ) (t : Txn) (query : Query) (number : ℕ) → Standing l (J ++ entry_of seat (Step t query number) ∷ []) k → Watches l (behind seat (Step t query number)) k.watch
  step_watch seat t query number stands = bystander_watch seat (Step t query number) (λ n. refl, λ n. refl, refl) k stands refl

  pub ping_watch : (seat : ℕ) (t : Txn) → Standing l (J ++ entry_of seat (Ping t) ∷ []) k → Watches l (behind seat (Ping t)) k.watch
  ping_watch seat t stands = bystander_watch seat (Ping t) (λ n. refl, λ n. refl, refl) k stands refl

  pub names_watch : (seat : ℕ) (names : NamesOp) → Standing l (J ++ entry_of seat (Names names) ∷ []) (names_kept l k names) → Watches l (behind seat (Names names)) (names_kept l k names).watch
  names_watch seat names = go (not (is_refusal (names_reply l k.prefixes names)))
    where
      left : Bool → Kept
      left b = cond b (record k { prefixes = prefixes_with k.prefixes names }) k

      go : (b : Bool) → Standing l (J ++ entry_of seat (Names names) ∷ []) (left b) → Watches l (behind seat (Names names)) (left b).watch
      go true stands = bystander_watch seat (Names names) (λ n. refl, λ n. refl, refl) (left true) stands refl
      go false stands = bystander_watch seat (Names names) (λ n. refl, λ n. refl, refl) (left false) stands refl

  -- Writes

  pub write_watch : (seat : ℕ) (txn : Option Txn) (changes : List Change) → Watches l (behind seat (Write txn changes)) (write_kept l (length J) k txn changes).watch
  write_watch seat txn changes = go (lives txn k.open_txns) (commits_at_once txn) (within l (applied k.content changes)) (write_stands l J k h seat txn changes)
    where
      e : Op
      e = Write txn changes

      left : Bool → Bool → Bool → Kept
      left live now fits = cond live (cond now (cond fits (changed_kept (length J) k (applied k.content changes)) k) (record k { writes = k.writes ++ waiting txn changes })) k

      go : (live now fits : Bool) → Standing l (J ++ entry_of seat e ∷ []) (left live now fits) → Watches l (behind seat e) (left live now fits).watch
      go true true true stands = bystander_noted seat e (λ n. refl, λ n. refl, refl) (left true true true) stands
      go true true false stands = bystander_watch seat e (λ n. refl, λ n. refl, refl) k stands refl
      go true false fits stands = bystander_watch seat e (λ n. refl, λ n. refl, refl) (left true false fits) stands refl
      go false now fits stands = bystander_watch seat e (λ n. refl, λ n. refl, refl) k stands refl

  -- The end of a transaction

  module _ (seat : ℕ) (op : Op) (t : Txn) (accepted : accepted_at seat op ≡ true) (live : is_among t k.open_txns ≡ true)
      (ends_are : (n : ℕ) → is_end (reader_at n) op ≡ is_txn (reader_at n) t) (unread : (n : ℕ) → observed_by l (judged l J) (reader_at n) op ≡ []) (unbegun : is_begin Serializable op ≡ false)
      (k' : Kept) (stands : Standing l (J ++ entry_of seat op ∷ []) k')
      (left : Watch) (same : left.readers ≡ k.watch.readers)
      (grows : (rs : List (ℕ × List Pattern)) → ((n : ℕ) → observed_in n rs ≡ observed_at l (judged l J ++ judged_entry l (judged l J) (entry_of seat op) ∷ []) n) → Watches l (behind seat op) (record left { readers = rs })) where
    long_next : length (behind seat op) ≡ length J + 1
    long_next = length-judged l (J ++ entry_of seat op ∷ []) ∙ length-append J (entry_of seat op ∷ [])

    end_watch : Watches l (behind seat op) (watch_ended (length J) t left)
    end_watch = go (is_serializable t) refl
      where
        rest : List (ℕ × List Pattern)
        rest = without_reader t.place k.watch.readers

        go : (b : Bool) → is_serializable t ≡ b
            → Watches l (behind seat op) (cond b (trimmed_to (oldest_or (length J + 1) (without_reader t.place left.readers)) (record left { readers = without_reader t.place left.readers })) left)
        go true level =
            let is : is_open l (judged l J) t ≡ true = alive l J k h (Some t) ∙ live in
            let grown : Watches l (behind seat op) (record left { readers = rest }) = grows rest
            (readers_ended l J k k' k.watch h m seat op stands t level is
            (λ n. ap (λ b. accepted_at seat op && b) unbegun ∙ and_false (accepted_at seat op))
            (λ n. ap (λ r. cond (accepted_at seat op) r []) (unread n) ∙ cond_none (accepted_at seat op))
            (λ n. (λ i. accepted i && ends_are n i))) in
            subst (Watches l (behind seat op))
            (λ i. trimmed_to (oldest_or (long_next i) (without_reader t.place (sym same i))) (record left { readers = without_reader t.place (sym same i) }))
            (trimmed_oldest l (behind seat op) (record left { readers = rest }) grown)
        go false level =
            subst (Watches l (behind seat op)) (with_readers left k.watch.readers same)
            (grows k.watch.readers
            (same_readers seat op (
              λ n. ends_are n ∙ (ap (λ b. nat_eq n t.place && b) (other_level t.level Serializable level) ∙ and_false (nat_eq n t.place)),
              unread,
              unbegun,
            ) k' stands))

  pub rollback_watch : (seat : ℕ) (t : Txn) → Watches l (behind seat (Rollback t)) (rollback_kept (length J) k t).watch
  rollback_watch seat t = go (is_among t k.open_txns) refl (rollback_stands l J k h seat t)
    where
      left : Bool → Kept
      left b = cond b (ended (length J) k t) k

      go : (b : Bool) → is_among t k.open_txns ≡ b → Standing l (J ++ entry_of seat (Rollback t) ∷ []) (left b) → Watches l (behind seat (Rollback t)) (left b).watch
      go true is stands =
          end_watch seat (Rollback t) t (rollback_accepted l J k h seat t true is) is (λ n. refl) (λ n. refl) refl (left true) stands k.watch refl
          (λ rs fit. grown_quiet l J k (left true) k.watch h m seat (Rollback t) stands rs fit refl)
      go false is stands = refused_watch seat (Rollback t) (rollback_accepted l J k h seat t false is) stands

  pub commit_watch : (seat : ℕ) (t : Txn) → Watches l (behind seat (Commit t)) (commit_kept l (length J) k t).watch
  commit_watch seat t = go (is_among t k.open_txns) (watched_clash k.watch t) (within l (content_with_own k t)) refl refl refl (commit_stands l J k h m seat t)
    where
      e : Op
      e = Commit t

      left : Bool → Option (Pattern × Statement) → Bool → Kept
      left live clash fits = cond (live && (not (is_some clash) && fits)) (committed_kept (length J) k t) k

      changed : List Statement
      changed = quads_changed k.content (content_with_own k t)

      go : (live : Bool) (clash : Option (Pattern × Statement)) (fits : Bool) → is_among t k.open_txns ≡ live → watched_clash k.watch t ≡ clash → within l (content_with_own k t) ≡ fits
          → Standing l (J ++ entry_of seat e ∷ []) (left live clash fits) → Watches l (behind seat e) (left live clash fits).watch
      go true None true a b c stands =
          end_watch seat e t (commit_accepted l J k h m seat t true None true a b c) a (λ n. refl) (λ n. refl) refl (committed_kept (length J) k t) stands
          (watch_noted (length J) changed k.watch) (noted_readers changed)
          (λ rs fit. grown_noted l J k (committed_kept (length J) k t) k.watch h m seat e stands rs fit)
      go true None false a b c stands = refused_watch seat e (commit_accepted l J k h m seat t true None false a b c) stands
      go true (Some clash) fits a b c stands = refused_watch seat e (commit_accepted l J k h m seat t true (Some clash) fits a b c) stands
      go false clash fits a b c stands = refused_watch seat e (commit_accepted l J k h m seat t false clash fits a b c) stands
