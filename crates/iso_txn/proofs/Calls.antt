-- What each call answers and leaves, in the words of what is kept.
use Rattle.std.proofs.Common.{◌≡◌, ℕ, ◌+◌, Bool, true, false, not, ◌&&◌, List, [], ◌∷◌, ◌++◌, length, Some, None, refl, sym, ◌∙◌, ap, subst, arith, append-nil, cond, nat_le, true≢false}
use Rattle.std.specs.Prelude.{Option, filter}
use Rattle.std.specs.Option.{is_some}
use Rattle.rdf_term.specs.declared.pattern.Pattern.{Pattern}
use Rattle.rdf_term.specs.Statement.{Statement}
use Rattle.change_set.specs.declared.change.Change.{Change}
use Rattle.change_set.specs.Content.{content, applied}
use Rattle.journal.specs.declared.level.Level.{Level}
use Rattle.journal.specs.declared.txn.Txn.{Txn}
use Rattle.journal.specs.declared.ask.Ask.{Ask}
use Rattle.journal.specs.declared.entry.Entry.{Entry}
use Rattle.journal.specs.declared.op.NamesOp.{NamesOp}
use Rattle.journal.specs.declared.op.Op.TheVariants.{Begin, Read, Step, Write, Commit, Rollback, Ping, Names}
use Rattle.journal.specs.declared.limits.Limits.{Limits}
use Rattle.journal.specs.declared.reply.Reply.{Reply}
use Rattle.journal.specs.declared.reply.Reply.TheVariants as reply
use Rattle.query_model.specs.declared.query.Query.{Query}
use Rattle.journal.specs.Levels.{commits_at_once}
use Rattle.journal.specs.Past.{Judged, ends, is_live, is_open, own_changes}
use Rattle.journal.specs.Committed.{applied_changes, committed, committed_changes, prefixes_with}
use Rattle.journal.specs.Conflicts.{clash_at}
use Rattle.journal.specs.Replies.{commit_reply as reply_to_commit, is_accepted, is_refusal, names_reply, reply_to, within}
use Rattle.journal.specs.Journal.{entry_of, is_live_after, judged, reply_next}
use Rattle.journal.proofs.Growth.{length-judged}
use Rattle.journal.proofs.Open.{is_open-push_old}
use Rattle.iso_txn.specs.Kept.{Kept, Opened, Pending, Standing, base_at, begin_answer, begin_kept, changed_kept, commit_answer, commit_kept, committed_kept, conflict_or, content_with_own, done_if, end_answer, ended, is_among, is_crowded, lives, names_kept, pending_op, pending_without, rollback_kept, waiting, without, write_answer, write_kept}
use Rattle.iso_txn.specs.Watch.{Watches, quads_changed, watch_begun, watch_ended, watch_noted, watched_clash}
use Rattle.iso_txn.proofs.Steps.{content-append, content-still, is_open-below, length-opened, stands_next, stands_watching}
use Rattle.iso_txn.proofs.Views.{live_is, own_is}
use Rattle.iso_txn.proofs.WatchGrowth.{clash_kept}

filter_all : {A : Type 0} (xs : List A) → filter (λ (x : A). true) xs ≡ xs
filter_all [] = refl
filter_all (x ∷ xs) = ap (λ r. x ∷ r) (filter_all xs)

all_kept : {A : Type 0} (xs : List A) → filter (λ (x : A). true) xs ++ [] ≡ xs
all_kept xs = append-nil (filter (λ x. true) xs) ∙ filter_all xs

same_count : (n : ℕ) → n + 0 ≡ n
same_count n = omega arith

module _ (l : Limits) (J : List Entry) (k : Kept) (h : Standing l J k) where
  -- an entry that applies, begins, ends and leaves nothing
  quiet : (e : Entry) → (let next : Kept = record { content = applied k.content []; open_txns = filter (λ (o : Opened). true) k.open_txns ++ []; writes = filter (λ (w : Pending). true) k.writes ++ []; prefixes = k.prefixes; commits = k.commits + 0; watch = k.watch } in Standing l (J ++ e ∷ []) next)
      → Standing l (J ++ e ∷ []) k
  quiet e next = subst (Standing l (J ++ e ∷ [])) (λ i. record { content = content-still l J k h i; open_txns = all_kept k.open_txns i; writes = all_kept k.writes i; prefixes = k.prefixes; commits = same_count k.commits i; watch = k.watch }) next

  -- a refused entry changes nothing
  pub refused : (e : Entry) → is_accepted l (judged l J) e ≡ false → Standing l (J ++ e ∷ []) k
  unfolding applied_changes
  refused e is = quiet e (stands_next l J k h e false is)

  pub alive : (txn : Option Txn) → is_live l (judged l J) txn ≡ lives txn k.open_txns
  unfolding is_live_after
  alive txn = live_is l J k h txn

  -- Begin

  pub begin_reply : (seat : ℕ) (level : Level) → reply_next l J (entry_of seat (Begin level)) ≡ begin_answer l k (record { place = length J; level = level })
  unfolding reply_next reply_to
  begin_reply seat level =
      (λ i. cond (nat_le l.txns (sym (length-opened l (judged l J)) i)) reply.TooManyOpen (reply.Begun (record { place = length-judged l J i; level = level })))
      ∙ ap (λ (os : List Opened). cond (nat_le l.txns (length os)) reply.TooManyOpen (reply.Begun (record { place = length J; level = level }))) (sym h.opened_is)

  pub begin_accepted : (seat : ℕ) (level : Level) (b : Bool) → is_crowded l k ≡ b → is_accepted l (judged l J) (entry_of seat (Begin level)) ≡ not b
  unfolding is_accepted reply_next
  begin_accepted seat level true is = ap (λ r. not (is_refusal r)) (begin_reply seat level ∙ ap (λ b. cond b reply.TooManyOpen (reply.Begun (record { place = length J; level = level }))) is)
  begin_accepted seat level false is = ap (λ r. not (is_refusal r)) (begin_reply seat level ∙ ap (λ b. cond b reply.TooManyOpen (reply.Begun (record { place = length J; level = level }))) is)

  begin_done : (seat : ℕ) (level : Level) → is_crowded l k ≡ false
      → Standing l (J ++ entry_of seat (Begin level) ∷ []) (record k { open_txns = k.open_txns ++ base_at (record { place = length J; level = level }) k.content ∷ [] })
  unfolding applied_changes
  begin_done seat level is =
      let o : Opened = base_at (record { place = length J; level = level }) k.content in
      subst (Standing l (J ++ entry_of seat (Begin level) ∷ []))
      (λ i. record { content = content-still l J k h i; open_txns = filter_all k.open_txns i ++ o ∷ []; writes = all_kept k.writes i; prefixes = k.prefixes; commits = same_count k.commits i; watch = k.watch })
      (stands_next l J k h (entry_of seat (Begin level)) true (begin_accepted seat level false is))

  pub begin_stands : (seat : ℕ) (level : Level) → Standing l (J ++ entry_of seat (Begin level) ∷ []) (begin_kept l k (record { place = length J; level = level }))
  begin_stands seat level = go (is_crowded l k) refl
    where
      go : (b : Bool) → is_crowded l k ≡ b
          → Standing l (J ++ entry_of seat (Begin level) ∷ []) (cond b k (record k { open_txns = k.open_txns ++ base_at (record { place = length J; level = level }) k.content ∷ []; watch = watch_begun (record { place = length J; level = level }) k.watch }))
      go true is = refused (entry_of seat (Begin level)) (begin_accepted seat level true is)
      go false is = stands_watching l _ _ (watch_begun (record { place = length J; level = level }) k.watch) (begin_done seat level is)

  -- Rollback and Ping

  pub rollback_reply : (seat : ℕ) (t : Txn) → reply_next l J (entry_of seat (Rollback t)) ≡ end_answer k t
  unfolding reply_next reply_to
  rollback_reply seat t = ap (λ b. cond b reply.Done reply.NoTransaction) (alive (Some t))

  pub rollback_accepted : (seat : ℕ) (t : Txn) (b : Bool) → is_among t k.open_txns ≡ b → is_accepted l (judged l J) (entry_of seat (Rollback t)) ≡ b
  unfolding is_accepted reply_next
  rollback_accepted seat t true is = ap (λ r. not (is_refusal r)) (rollback_reply seat t ∙ ap (λ b. cond b reply.Done reply.NoTransaction) is)
  rollback_accepted seat t false is = ap (λ r. not (is_refusal r)) (rollback_reply seat t ∙ ap (λ b. cond b reply.Done reply.NoTransaction) is)

  rollback_done : (seat : ℕ) (t : Txn) → is_among t k.open_txns ≡ true → Standing l (J ++ entry_of seat (Rollback t) ∷ []) (ended (length J) k t)
  unfolding applied_changes
  rollback_done seat t is =
      stands_watching l _ _ (watch_ended (length J) t k.watch)
      (subst (Standing l (J ++ entry_of seat (Rollback t) ∷ []))
      (λ i. record { content = content-still l J k h i; open_txns = append-nil (without t k.open_txns) i; writes = append-nil (pending_without t k.writes) i; prefixes = k.prefixes; commits = same_count k.commits i; watch = k.watch })
      (stands_next l J k h (entry_of seat (Rollback t)) true (rollback_accepted seat t true is)))

  pub rollback_stands : (seat : ℕ) (t : Txn) → Standing l (J ++ entry_of seat (Rollback t) ∷ []) (rollback_kept (length J) k t)
  rollback_stands seat t = go (is_among t k.open_txns) refl
    where
      go : (b : Bool) → is_among t k.open_txns ≡ b → Standing l (J ++ entry_of seat (Rollback t) ∷ []) (cond b (ended (length J) k t) k)
      go true is = rollback_done seat t is
      go false is = refused (entry_of seat (Rollback t)) (rollback_accepted seat t false is)

  pub ping_reply : (seat : ℕ) (t : Txn) → reply_next l J (entry_of seat (Ping t)) ≡ end_answer k t
  unfolding reply_next reply_to
  ping_reply seat t = ap (λ b. cond b reply.Done reply.NoTransaction) (alive (Some t))

  pub ping_stands : (seat : ℕ) (t : Txn) → Standing l (J ++ entry_of seat (Ping t) ∷ []) k
  unfolding applied_changes
  ping_stands seat t = go (is_accepted l (judged l J) (entry_of seat (Ping t))) refl
    where
      go : (b : Bool) → is_accepted l (judged l J) (entry_of seat (Ping t)) ≡ b → Standing l (J ++ entry_of seat (Ping t) ∷ []) k
      go false is = refused (entry_of seat (Ping t)) is
      go true is = quiet (entry_of seat (Ping t)) (stands_next l J k h (entry_of seat (Ping t)) true is)

  -- Reads

  pub read_stands : (seat : ℕ) (txn : Option Txn) (ask : Ask) → Standing l (J ++ entry_of seat (Read txn ask) ∷ []) k
  unfolding applied_changes
  read_stands seat txn ask = go (is_accepted l (judged l J) (entry_of seat (Read txn ask))) refl
    where
      go : (b : Bool) → is_accepted l (judged l J) (entry_of seat (Read txn ask)) ≡ b → Standing l (J ++ entry_of seat (Read txn ask) ∷ []) k
      go false is = refused (entry_of seat (Read txn ask)) is
      go true is = quiet (entry_of seat (Read txn ask)) (stands_next l J k h (entry_of seat (Read txn ask)) true is)

  pub step_stands : (seat : ℕ) (t : Txn) (query : Query) (number : ℕ) → Standing l (J ++ entry_of seat (Step t query number) ∷ []) k
  unfolding applied_changes
  step_stands seat t query number = go (is_accepted l (judged l J) (entry_of seat (Step t query number))) refl
    where
      go : (b : Bool) → is_accepted l (judged l J) (entry_of seat (Step t query number)) ≡ b → Standing l (J ++ entry_of seat (Step t query number) ∷ []) k
      go false is = refused (entry_of seat (Step t query number)) is
      go true is = quiet (entry_of seat (Step t query number)) (stands_next l J k h (entry_of seat (Step t query number)) true is)

  -- Names

  pub names_answer : (seat : ℕ) (names : NamesOp) → reply_next l J (entry_of seat (Names names)) ≡ names_reply l k.prefixes names
  unfolding reply_next reply_to
  names_answer seat names = ap (λ ps. names_reply l ps names) (sym h.prefixes_are)

  pub names_accepted : (seat : ℕ) (names : NamesOp) → is_accepted l (judged l J) (entry_of seat (Names names)) ≡ not (is_refusal (names_reply l k.prefixes names))
  unfolding is_accepted reply_next
  names_accepted seat names = ap (λ r. not (is_refusal r)) (names_answer seat names)

  names_done : (seat : ℕ) (names : NamesOp) → is_accepted l (judged l J) (entry_of seat (Names names)) ≡ true
      → Standing l (J ++ entry_of seat (Names names) ∷ []) (record k { prefixes = prefixes_with k.prefixes names })
  unfolding applied_changes
  names_done seat names is =
      subst (Standing l (J ++ entry_of seat (Names names) ∷ []))
      (λ i. record { content = content-still l J k h i; open_txns = all_kept k.open_txns i; writes = all_kept k.writes i; prefixes = prefixes_with k.prefixes names; commits = same_count k.commits i; watch = k.watch })
      (stands_next l J k h (entry_of seat (Names names)) true is)

  pub names_stands : (seat : ℕ) (names : NamesOp) → Standing l (J ++ entry_of seat (Names names) ∷ []) (names_kept l k names)
  names_stands seat names = go (not (is_refusal (names_reply l k.prefixes names))) refl
    where
      go : (b : Bool) → not (is_refusal (names_reply l k.prefixes names)) ≡ b
          → Standing l (J ++ entry_of seat (Names names) ∷ []) (cond b (record k { prefixes = prefixes_with k.prefixes names }) k)
      go true is = names_done seat names (names_accepted seat names ∙ is)
      go false is = refused (entry_of seat (Names names)) (names_accepted seat names ∙ is)

  -- Writes

  changes_are : (changes : List Change) → content (committed_changes l (judged l J) ++ changes) ≡ applied k.content changes
  unfolding committed
  changes_are changes = content-append (committed_changes l (judged l J)) changes ∙ ap (λ c. applied c changes) (sym h.content_is)

  pub write_reply : (seat : ℕ) (txn : Option Txn) (changes : List Change) → reply_next l J (entry_of seat (Write txn changes)) ≡ write_answer l k txn changes
  unfolding reply_next reply_to
  write_reply seat txn changes =
      λ i. cond (alive txn i) (cond (commits_at_once txn) (cond (within l (changes_are changes i)) reply.Done reply.TooLarge) reply.Done) reply.NoTransaction

  -- the reply, where it is known whether the transaction is open, the write is committed at once and its changes fit
  abbrev pub write_case : Bool → Bool → Bool → Reply
  write_case live now fits = cond live (cond now (cond fits reply.Done reply.TooLarge) reply.Done) reply.NoTransaction

  pub write_accepted : (seat : ℕ) (txn : Option Txn) (changes : List Change) (live now fits : Bool) → lives txn k.open_txns ≡ live → commits_at_once txn ≡ now → within l (applied k.content changes) ≡ fits
      → is_accepted l (judged l J) (entry_of seat (Write txn changes)) ≡ not (is_refusal (write_case live now fits))
  unfolding is_accepted reply_next
  write_accepted seat txn changes live now fits a b c = ap (λ r. not (is_refusal r)) (write_reply seat txn changes ∙ (λ i. write_case (a i) (b i) (c i)))

  none_pending : (txn : Option Txn) (changes : List Change) (p : List Judged) → commits_at_once txn ≡ true → pending_op l p (Write txn changes) ≡ []
  none_pending None changes p now = refl
  none_pending (Some t) changes p now = ap (λ b. let w : Pending = record { txn = t; changes = changes } in cond (not b && is_open l p t) (w ∷ []) []) now

  write_now : (seat : ℕ) (txn : Option Txn) (changes : List Change) → commits_at_once txn ≡ true → is_accepted l (judged l J) (entry_of seat (Write txn changes)) ≡ true
      → Standing l (J ++ entry_of seat (Write txn changes) ∷ []) (changed_kept (length J) k (applied k.content changes))
  unfolding applied_changes
  write_now seat txn changes now is =
      let e : Entry = entry_of seat (Write txn changes) in
      let j : Judged = record { entry = e; accepted = true } in
      stands_watching l _ _ (watch_noted (length J) (quads_changed k.content (applied k.content changes)) k.watch)
      (subst (Standing l (J ++ e ∷ []))
      (λ i. record {
        content = applied k.content (cond (now i) changes []);
        open_txns = all_kept k.open_txns i;
        writes = (ap (λ r. filter (λ (w : Pending). true) k.writes ++ r) (none_pending txn changes (judged l J ++ j ∷ []) now) ∙ all_kept k.writes) i;
        prefixes = k.prefixes;
        commits = same_count k.commits i;
        watch = k.watch;
      })
      (stands_next l J k h e true is))

  -- the transaction of a write stays open
  still_open : (p : List Judged) (j : Judged) (t : Txn) → is_open l p t ≡ true → ends t j ≡ false → is_open l (p ++ j ∷ []) t ≡ true
  still_open p j t live ends_not = is_open-push_old l p j t (is_open-below l p t live) ∙ (λ i. live i && not (ends_not i))

  write_later : (seat : ℕ) (t : Txn) (changes : List Change) → is_among t k.open_txns ≡ true → commits_at_once (Some t) ≡ false → is_accepted l (judged l J) (entry_of seat (Write (Some t) changes)) ≡ true
      → Standing l (J ++ entry_of seat (Write (Some t) changes) ∷ []) (record k { writes = k.writes ++ waiting (Some t) changes })
  unfolding applied_changes
  write_later seat t changes live later is =
      let e : Entry = entry_of seat (Write (Some t) changes) in
      let j : Judged = record { entry = e; accepted = true } in
      let w : Pending = record { txn = t; changes = changes } in
      let o : is_open l (judged l J ++ j ∷ []) t ≡ true = still_open (judged l J) j t (alive (Some t) ∙ live) refl in
      let content_is : applied k.content (cond (commits_at_once (Some t)) changes []) ≡ k.content = ap (λ b. applied k.content (cond b changes [])) later ∙ content-still l J k h in
      let writes_are : filter (λ (w : Pending). true) k.writes ++ pending_op l (judged l J ++ j ∷ []) (Write (Some t) changes) ≡ k.writes ++ w ∷ [] = (λ i. filter_all k.writes i ++ cond (not (later i) && o i) (w ∷ []) []) in
      subst (Standing l (J ++ e ∷ []))
      (λ i. record { content = content_is i; open_txns = all_kept k.open_txns i; writes = writes_are i; prefixes = k.prefixes; commits = same_count k.commits i; watch = k.watch })
      (stands_next l J k h e true is)

  write_waits : (seat : ℕ) (txn : Option Txn) (changes : List Change) → lives txn k.open_txns ≡ true → commits_at_once txn ≡ false → is_accepted l (judged l J) (entry_of seat (Write txn changes)) ≡ true
      → Standing l (J ++ entry_of seat (Write txn changes) ∷ []) (record k { writes = k.writes ++ waiting txn changes })
  write_waits seat None changes live later is = absurd (true≢false later)
  write_waits seat (Some t) changes live later is = write_later seat t changes live later is

  pub write_stands : (seat : ℕ) (txn : Option Txn) (changes : List Change) → Standing l (J ++ entry_of seat (Write txn changes) ∷ []) (write_kept l (length J) k txn changes)
  write_stands seat txn changes = go (lives txn k.open_txns) (commits_at_once txn) (within l (applied k.content changes)) refl refl refl
    where
      go : (live now fits : Bool) → lives txn k.open_txns ≡ live → commits_at_once txn ≡ now → within l (applied k.content changes) ≡ fits
          → Standing l (J ++ entry_of seat (Write txn changes) ∷ []) (cond live (cond now (cond fits (changed_kept (length J) k (applied k.content changes)) k) (record k { writes = k.writes ++ waiting txn changes })) k)
      go false now fits a b c = refused (entry_of seat (Write txn changes)) (write_accepted seat txn changes false now fits a b c)
      go true true false a b c = refused (entry_of seat (Write txn changes)) (write_accepted seat txn changes true true false a b c)
      go true true true a b c = write_now seat txn changes b (write_accepted seat txn changes true true true a b c)
      go true false fits a b c = write_waits seat txn changes a b (write_accepted seat txn changes true false fits a b c)

  -- Commits

  with_own : (t : Txn) → is_among t k.open_txns ≡ true → content (committed_changes l (judged l J) ++ own_changes l (judged l J) t) ≡ content_with_own k t
  with_own t live = changes_are (own_changes l (judged l J) t) ∙ ap (applied k.content) (own_is l J k h t live)

  module _ (m : Watches l (judged l J) k.watch) where
    clash_is : (t : Txn) → is_among t k.open_txns ≡ true → clash_at l (judged l J) t ≡ watched_clash k.watch t
    clash_is t live = clash_kept l (judged l J) k.watch m t (alive (Some t) ∙ live)

    pub commit_reply : (seat : ℕ) (t : Txn) → reply_next l J (entry_of seat (Commit t)) ≡ commit_answer l k t
    unfolding reply_next reply_to
    commit_reply seat t =
        ap (λ b. cond b (reply_to_commit l (judged l J) t (clash_at l (judged l J) t)) reply.NoTransaction) (alive (Some t)) ∙ go (is_among t k.open_txns) refl
      where
        by_clash : is_among t k.open_txns ≡ true → (clash : Option (Pattern × Statement)) → reply_to_commit l (judged l J) t clash ≡ conflict_or clash (done_if (within l (content_with_own k t)))
        by_clash live (Some clash) = refl
        by_clash live None = ap (λ quads. done_if (within l quads)) (with_own t live)

        go : (b : Bool) → is_among t k.open_txns ≡ b
            → cond b (reply_to_commit l (judged l J) t (clash_at l (judged l J) t)) reply.NoTransaction
            ≡ cond b (conflict_or (watched_clash k.watch t) (done_if (within l (content_with_own k t)))) reply.NoTransaction
        go true live = ap (reply_to_commit l (judged l J) t) (clash_is t live) ∙ by_clash live (watched_clash k.watch t)
        go false live = refl

    abbrev commit_case : Bool → Option (Pattern × Statement) → Bool → Reply
    commit_case live clash fits = cond live (conflict_or clash (done_if fits)) reply.NoTransaction

    pub commit_accepted : (seat : ℕ) (t : Txn) (live : Bool) (clash : Option (Pattern × Statement)) (fits : Bool) → is_among t k.open_txns ≡ live → watched_clash k.watch t ≡ clash → within l (content_with_own k t) ≡ fits
        → is_accepted l (judged l J) (entry_of seat (Commit t)) ≡ not (is_refusal (commit_case live clash fits))
    unfolding is_accepted reply_next
    commit_accepted seat t live clash fits a b c = ap (λ r. not (is_refusal r)) (commit_reply seat t ∙ (λ i. commit_case (a i) (b i) (c i)))

    commit_done : (seat : ℕ) (t : Txn) → is_among t k.open_txns ≡ true → is_accepted l (judged l J) (entry_of seat (Commit t)) ≡ true
        → Standing l (J ++ entry_of seat (Commit t) ∷ []) (committed_kept (length J) k t)
    unfolding applied_changes
    commit_done seat t live is =
        stands_watching l _ _ (watch_ended (length J) t (watch_noted (length J) (quads_changed k.content (content_with_own k t)) k.watch))
        (subst (Standing l (J ++ entry_of seat (Commit t) ∷ []))
        (λ i. record { content = applied k.content (own_is l J k h t live i); open_txns = append-nil (without t k.open_txns) i; writes = append-nil (pending_without t k.writes) i; prefixes = k.prefixes; commits = k.commits + 1; watch = k.watch })
        (stands_next l J k h (entry_of seat (Commit t)) true is))

    pub commit_stands : (seat : ℕ) (t : Txn) → Standing l (J ++ entry_of seat (Commit t) ∷ []) (commit_kept l (length J) k t)
    commit_stands seat t = go (is_among t k.open_txns) (watched_clash k.watch t) (within l (content_with_own k t)) refl refl refl
      where
        e : Entry
        e = entry_of seat (Commit t)

        go : (live : Bool) (clash : Option (Pattern × Statement)) (fits : Bool) → is_among t k.open_txns ≡ live → watched_clash k.watch t ≡ clash → within l (content_with_own k t) ≡ fits
            → Standing l (J ++ entry_of seat (Commit t) ∷ []) (cond (live && (not (is_some clash) && fits)) (committed_kept (length J) k t) k)
        go true None true a b c = commit_done seat t a (commit_accepted seat t true None true a b c)
        go true None false a b c = refused e (commit_accepted seat t true None false a b c)
        go true (Some clash) fits a b c = refused e (commit_accepted seat t true (Some clash) fits a b c)
        go false clash fits a b c = refused e (commit_accepted seat t false clash fits a b c)
