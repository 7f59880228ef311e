-- A SERIALIZABLE transaction whose Commit has no clash read as if it ran alone.
use Rattle.std.proofs.Common.{◌≡◌, ℕ, zero, suc, ◌+◌, ◌<◌, Bool, true, false, not, ◌&&◌, ◌||◌, List, [], ◌∷◌, ◌++◌, length, take, drop, filter, refl, sym, ◌∙◌, ap, subst, true≢false, append-nil, append_assoc, arith, take-append-drop, nat_lt, ltb-true, cond, add-one}
use Rattle.std.specs.Prelude.{Option, Some, None, slice_get}
use Rattle.std.specs.List.{list_any}
use Rattle.std.proofs.lemmas.List.{take-append-le, drop-append-le}
use Rattle.std.proofs.lemmas.List.Folds.{list_any-append}
use Rattle.std.proofs.lemmas.Bool.Decides.{nat_tests}
use Rattle.rdf_term.specs.declared.pattern.Pattern.{Pattern}
use Rattle.rdf_term.specs.Statement.{Statement}
use Rattle.rdf_term.specs.Order.{quad_cmp}
use Rattle.rdf_term.proofs.SetLemmas.{has}
use Rattle.change_set.specs.declared.change.Change.{Change}
use Rattle.change_set.specs.declared.effect.Effect.{Effect}
use Rattle.change_set.specs.declared.effect.Effect.TheVariants.{Added, Removed, Untouched}
use Rattle.change_set.specs.Content.{content, is_added, last_effect}
use Rattle.change_set.proofs.Contents.{has-content, has-filter, is_in_after, sorted-content}
use Rattle.change_set.proofs.Effects.{last_effect-append, over}
use Rattle.journal.specs.declared.level.Level.{Level}
use Rattle.journal.specs.declared.level.Level.TheVariants.{Serializable}
use Rattle.journal.specs.declared.txn.Txn.{Txn}
use Rattle.journal.specs.declared.ask.Ask.{Ask}
use Rattle.journal.specs.declared.op.Op.{Op}
use Rattle.journal.specs.declared.op.Op.TheVariants.{Begin, Read, Step, Write, Commit, Rollback, Ping, Names}
use Rattle.journal.specs.declared.entry.Entry.{Entry}
use Rattle.journal.specs.declared.limits.Limits.{Limits}
use Rattle.journal.specs.declared.reply.Reply.TheVariants as reply
use Rattle.journal.specs.LevelLaws.{txn_itself}
use Rattle.journal.specs.Past.{Judged, begins, ends, is_begin, is_open, joined_from, own_changes}
use Rattle.journal.specs.Committed.{applied_changes, committed, committed_changes, effect_of}
use Rattle.journal.specs.Views.{view_at, view_by_level}
use Rattle.journal.specs.Found.{found, one_matches, patterns_of}
use Rattle.journal.specs.Conflicts.{clash_at, delta_at, differing, is_in}
use Rattle.journal.specs.Replies.{commit_reply, is_accepted, is_refusal, reply_to}
use Rattle.journal.specs.Journal.{entry_of, is_commit, judged, judged_entry, reply_next}
use Rattle.journal.specs.Alone.{reply_alone}
use Rattle.journal.specs.SerialLaws.{CommittedReadsAsIfAlone, DoneCommitReadsAsIfAlone}
use Rattle.journal.proofs.Growth.{committed_changes-push, judged-push, length-judged, slice_get-append_at}
use Rattle.journal.proofs.Places.{judged_at, reply_there, some_same, split_at, take_past}
use Rattle.journal.proofs.Views.{found_same}
use Rattle.journal.proofs.Clash.{no_clash, read_observed}

-- Deltas

or_false : (a b : Bool) → (a || b) ≡ false → (a ≡ false) × (b ≡ false)
or_false true b e = absurd (true≢false e)
or_false false b e = (refl, e)

-- a quad that doesn't differ is in both or in neither
not_differing : (a b : List Statement) (q : Statement) → has quad_cmp (differing a b) q ≡ false → has quad_cmp a q ≡ has quad_cmp b q
not_differing a b q e =
    let h = or_false (has quad_cmp (filter (λ u. not (is_in b u)) a) q) (has quad_cmp (filter (λ u. not (is_in a u)) b) q)
    (sym (list_any-append _ (filter (λ u. not (is_in b u)) a) (filter (λ u. not (is_in a u)) b)) ∙ e) in
    alike (has quad_cmp a q) (has quad_cmp b q) (sym (has-filter (λ u. not (is_in b u)) a q) ∙ h.0) (sym (has-filter (λ u. not (is_in a u)) b q) ∙ h.1)
  where
    alike : (x y : Bool) → (x && not y) ≡ false → (y && not x) ≡ false → x ≡ y
    alike true true e f = refl
    alike true false e f = absurd (true≢false e)
    alike false true e f = absurd (true≢false f)
    alike false false e f = refl

-- a quad in no delta is committed before them where it is behind them
unchanged : (limits : Limits) (before rest : List Judged) (q : Statement) → has quad_cmp (joined_from before (delta_at limits) rest) q ≡ false
    → has quad_cmp (committed limits before) q ≡ has quad_cmp (committed limits (before ++ rest)) q
unfolding delta_at
unchanged limits before [] q e = ap (λ p. has quad_cmp (committed limits p) q) (sym (append-nil before))
unchanged limits before (x ∷ rest) q e =
    let h = or_false (has quad_cmp (delta_at limits before x) q) (has quad_cmp (joined_from (before ++ x ∷ []) (delta_at limits) rest) q)
    (sym (list_any-append _ (delta_at limits before x) (joined_from (before ++ x ∷ []) (delta_at limits) rest)) ∙ e) in
    not_differing (committed limits before) (committed limits (before ++ x ∷ [])) q h.0
    ∙ (unchanged limits (before ++ x ∷ []) rest q h.1
    ∙ ap (λ p. has quad_cmp (committed limits p) q) (append_assoc before (x ∷ []) rest))

added_over : (e f : Effect) → is_added (over e f) ≡ is_in_after e (is_added f)
added_over Added f = refl
added_over Removed f = refl
added_over Untouched f = refl

-- own changes over two contents that no delta between them tells apart, as far as the ask's patterns match
read_same : (limits : Limits) (a : Ask) (before rest : List Judged) (own : List Change) (most : ℕ)
    → ((q : Statement) → one_matches (patterns_of a) q ≡ true → has quad_cmp (joined_from before (delta_at limits) rest) q ≡ false)
    → found a (content (committed_changes limits before ++ own) ∷ []) most ≡ found a (content (committed_changes limits (before ++ rest) ++ own) ∷ []) most
unfolding committed
read_same limits a before rest own most clear =
    found_same a (content (committed_changes limits before ++ own)) (content (committed_changes limits (before ++ rest) ++ own)) most
    (sorted-content (committed_changes limits before ++ own)) (sorted-content (committed_changes limits (before ++ rest) ++ own))
    (λ q e. behind before q ∙ (ap (is_in_after (last_effect own q)) (unchanged limits before rest q (clear q e)) ∙ sym (behind (before ++ rest) q)))
  where
    behind : (p : List Judged) (q : Statement) → has quad_cmp (content (committed_changes limits p ++ own)) q ≡ is_in_after (last_effect own q) (has quad_cmp (content (committed_changes limits p)) q)
    behind p q =
        has-content (committed_changes limits p ++ own) q
        ∙ (ap is_added (last_effect-append (committed_changes limits p) own q)
        ∙ (added_over (last_effect own q) (last_effect (committed_changes limits p) q)
        ∙ ap (is_in_after (last_effect own q)) (sym (has-content (committed_changes limits p) q))))

-- The snapshot

pub take_one : {A : Type 0} (xs : List A) (n : ℕ) (x : A) → slice_get xs n ≡ Some x → take (suc n) xs ≡ take n xs ++ x ∷ []
take_one [] n x e = cc
take_one (y ∷ xs) zero x e = let same : y ≡ x = cc in ap (λ z. z ∷ []) same
take_one (y ∷ xs) (suc n) x e = ap (λ r. y ∷ r) (take_one xs n x e)

idle_begin : (l : Level) (limits : Limits) (p : List Judged) (op : Op) → is_begin l op ≡ true → effect_of limits p op ≡ []
idle_begin l limits p (Begin m) e = refl
idle_begin l limits p (Read txn ask) e = absurd (true≢false (sym e))
idle_begin l limits p (Step t query number) e = absurd (true≢false (sym e))
idle_begin l limits p (Write txn changes) e = absurd (true≢false (sym e))
idle_begin l limits p (Commit t) e = absurd (true≢false (sym e))
idle_begin l limits p (Rollback t) e = absurd (true≢false (sym e))
idle_begin l limits p (Ping t) e = absurd (true≢false (sym e))
idle_begin l limits p (Names names) e = absurd (true≢false (sym e))

pub both : (a b : Bool) → (a && b) ≡ true → (a ≡ true) × (b ≡ true)
both true b e = (refl, e)
both false b e = absurd (true≢false (sym e))

-- an open transaction has its Begin at its place, and no end behind that
pub open_parts : (limits : Limits) (p : List Judged) (t : Txn) → is_open limits p t ≡ true
    → (t.place < length p) × (begins t (slice_get p t.place) ≡ true) × (list_any (ends t) (drop (t.place + 1) p) ≡ false)
unfolding is_open
open_parts limits p t is =
    let a = both (nat_lt t.place (length p) && begins t (slice_get p t.place)) (not (list_any (ends t) (drop (t.place + 1) p))) is in
    let b = both (nat_lt t.place (length p)) (begins t (slice_get p t.place)) a.0 in
    (ltb-true t.place (length p) b.0, b.1, never (list_any (ends t) (drop (t.place + 1) p)) a.1)
  where
    never : (b : Bool) → not b ≡ true → b ≡ false
    never true e = absurd (true≢false (sym e))
    never false e = refl

-- a Begin commits nothing
past_begin : (limits : Limits) (p : List Judged) (t : Txn) → is_open limits p t ≡ true → committed_changes limits (take (t.place + 1) p) ≡ committed_changes limits (take t.place p)
unfolding applied_changes
past_begin limits p t is = go (slice_get p t.place) refl (open_parts limits p t is).1
  where
    go : (o : Option Judged) → slice_get p t.place ≡ o → begins t o ≡ true → committed_changes limits (take (t.place + 1) p) ≡ committed_changes limits (take t.place p)
    go None got b = absurd (true≢false (sym b))
    go (Some e) got b =
        let h = both e.accepted (is_begin t.level e.entry.op) b in
        ap (committed_changes limits) (ap (λ n. take n p) (add-one t.place) ∙ take_one p t.place e got)
        ∙ (committed_changes-push limits (take t.place p) e
        ∙ (ap (λ c. committed_changes limits (take t.place p) ++ c)
        (ap (λ a. cond a (effect_of limits (take t.place p) e.entry.op) []) h.0 ∙ idle_begin t.level limits (take t.place p) e.entry.op h.1)
        ∙ append-nil (committed_changes limits (take t.place p))))

-- what a SERIALIZABLE transaction sees
pub snapshot_is : (limits : Limits) (p : List Judged) (t : Txn) → t.level ≡ Serializable
    → view_at limits p (Some t) ≡ content (committed_changes limits (take t.place p) ++ own_changes limits p t)
unfolding view_at
snapshot_is limits p t level = ap (λ l. view_by_level l limits p t) level

-- a read finds the same over what was committed before the Commit
pub alone_is : (limits : Limits) (before later : List Judged) (seat : ℕ) (t : Txn) (a : Ask) →
    let all : List Judged = before ++ record { entry = entry_of seat (Read (Some t) a); accepted = true } ∷ later in
    t.level ≡ Serializable → t.place < length before → is_open limits all t ≡ true → clash_at limits all t ≡ None
    → found a (view_at limits before (Some t) ∷ []) limits.rows ≡ found a (content (committed_changes limits all ++ own_changes limits before t) ∷ []) limits.rows
alone_is limits before later seat t a level lt is none =
    let e : Judged = record { entry = entry_of seat (Read (Some t) a); accepted = true } in
    let all : List Judged = before ++ e ∷ later in
    let n : ℕ = t.place + 1 in
    let cut : committed_changes limits (take t.place before) ≡ committed_changes limits (take n all) =
    ap (committed_changes limits) (sym (take-append-le t.place before (e ∷ later) (omega arith))) ∙ sym (past_begin limits all t is) in
    ap (λ v. found a (v ∷ []) limits.rows) (snapshot_is limits before t level)
    ∙ (ap (λ c. found a (content (c ++ own_changes limits before t) ∷ []) limits.rows) cut
    ∙ (read_same limits a (take n all) (drop n all) (own_changes limits before t) limits.rows
    (λ q m. no_clash limits all t level none q (read_observed limits before later seat t a q m))
    ∙ ap (λ p. found a (content (committed_changes limits p ++ own_changes limits before t) ∷ []) limits.rows) (take-append-drop n all)))

-- Acceptance

-- an accepted Commit is of an open transaction and has no clash
pub commit_accepted : (limits : Limits) (p : List Judged) (seat : ℕ) (t : Txn) → is_accepted limits p (entry_of seat (Commit t)) ≡ true → (is_open limits p t ≡ true) × (clash_at limits p t ≡ None)
unfolding is_accepted reply_to
commit_accepted limits p seat t accepted = go (is_open limits p t) refl (clash_at limits p t) refl accepted
  where
    go : (o : Bool) → is_open limits p t ≡ o → (c : Option (Pattern × Statement)) → clash_at limits p t ≡ c → not (is_refusal (cond o (commit_reply limits p t c) reply.NoTransaction)) ≡ true
        → (is_open limits p t ≡ true) × (clash_at limits p t ≡ None)
    go true is None none e = (is, none)
    go true is (Some c) none e = absurd (true≢false (sym e))
    go false is c none e = absurd (true≢false (sym e))

-- an accepted Read in a transaction is of an open one, and has what is found there as its reply
pub read_accepted : (limits : Limits) (p : List Judged) (seat : ℕ) (t : Txn) (a : Ask) → is_accepted limits p (entry_of seat (Read (Some t) a)) ≡ true
    → (is_open limits p t ≡ true) × (reply_to limits p (entry_of seat (Read (Some t) a)) ≡ found a (view_at limits p (Some t) ∷ []) limits.rows)
unfolding is_accepted reply_to
read_accepted limits p seat t a accepted = (accepted, ap (λ o. cond o (found a (view_at limits p (Some t) ∷ []) limits.rows) reply.NoTransaction) accepted)

-- behind an entry of an open transaction none has ended it
pub not_ended : (limits : Limits) (q : List Judged) (e : Judged) (r : List Judged) (t : Txn) → is_open limits (q ++ e ∷ r) t ≡ true → t.place < length q → ends t e ≡ false
not_ended limits q e r t is lt =
    let none = (open_parts limits (q ++ e ∷ r) t is).2 in
    let cut : drop (t.place + 1) (q ++ e ∷ r) ≡ drop (t.place + 1) q ++ e ∷ r = drop-append-le (t.place + 1) q (e ∷ r) (omega arith) in
    let apart = or_false (list_any (ends t) (drop (t.place + 1) q)) (ends t e || list_any (ends t) r)
    (sym (list_any-append (ends t) (drop (t.place + 1) q) (e ∷ r)) ∙ (ap (list_any (ends t)) (sym cut) ∙ none)) in
    (or_false (ends t e) (list_any (ends t) r) apart.1).0

-- The law

pub committed_reads_as_if_alone : CommittedReadsAsIfAlone
unfolding reply_alone
committed_reads_as_if_alone limits J t commit level at_commit place a at_read =
    let p : List Judged = judged limits J in
    let ended : Judged = record { entry = entry_of at_commit.0 (Commit t); accepted = true } in
    let read : Judged = record { entry = entry_of at_read.0 (Read (Some t) a); accepted = true } in
    let c = commit_accepted limits (take commit p) at_commit.0 t (sym (judged_at limits J commit ended at_commit.1).2) in
    let r = read_accepted limits (take place p) at_read.0 t a (sym (judged_at limits J place read at_read.1).2) in
    let around = split_at p commit ended at_commit.1 in
    let there = split_at p place read at_read.1 in
    let late : commit < place → ⊥ = λ lt.
    let more = take_past (take commit p) ended around.0 place (subst (λ n. n < place) (sym around.2) lt) in
    let prefix : take place p ≡ take commit p ++ ended ∷ more.0 = ap (take place) around.1 ∙ more.1 in
    let not_yet : ends t ended ≡ false = not_ended limits (take commit p) ended more.0 t (subst (λ q. is_open limits q t ≡ true) prefix r.0) (open_parts limits (take commit p) t c.0).0 in
    absurd (true≢false (sym (txn_itself t) ∙ not_yet)) in
    let apart : place ≡ commit → ⊥ = λ same.
    let one : ended ≡ read = some_same ended read (sym at_commit.1 ∙ (ap (slice_get p) (sym same) ∙ at_read.1)) in
    absurd (true≢false (ap (λ (e : Judged). is_commit e.entry.op) one)) in
    let lt : place < commit = earlier place commit late apart in
    let more = take_past (take place p) read there.0 commit (subst (λ n. n < commit) (sym there.2) lt) in
    let prefix : take commit p ≡ take place p ++ read ∷ more.0 = ap (take commit) there.1 ∙ more.1 in
    reply_there limits J place read at_read.1
    ∙ (ap Some (r.1
    ∙ alone_is limits (take place p) more.0 at_read.0 t a level (open_parts limits (take place p) t r.0).0
    (subst (λ q. is_open limits q t ≡ true) prefix c.0) (subst (λ q. clash_at limits q t ≡ None) prefix c.1))
    ∙ ap (λ q. Some (found a (content (committed_changes limits q ++ own_changes limits (take place p) t) ∷ []) limits.rows)) (sym prefix))
  where
    earlier : (n m : ℕ) → (m < n → ⊥) → (n ≡ m → ⊥) → n < m
    earlier n m late apart = go (nat_lt n m) (nat_lt m n) refl refl
      where
        go : (a b : Bool) → nat_lt n m ≡ a → nat_lt m n ≡ b → n < m
        go true b is no_more = ltb-true n m is
        go false true is more = absurd (late (ltb-true m n more))
        go false false is more = absurd (apart (grind (arith, nat_tests)))

-- a Commit that is done is accepted
pub done_commit_reads_as_if_alone : DoneCommitReadsAsIfAlone
unfolding reply_next is_accepted
done_commit_reads_as_if_alone limits J seat t level done =
    let e : Entry = entry_of seat (Commit t) in
    let p : List Judged = judged limits J in
    let accepted : is_accepted limits p e ≡ true = ap (λ r. not (is_refusal r)) done in
    committed_reads_as_if_alone limits (J ++ e ∷ []) t (length J) level (
      seat,
      ap (λ l. slice_get l (length J)) (judged-push limits J e)
          ∙ (ap (slice_get (p ++ judged_entry limits p e ∷ [])) (sym (length-judged limits J))
          ∙ (slice_get-append_at p (judged_entry limits p e) []
          ∙ ap (λ a. Some (record { entry = e; accepted = a })) accepted)),
    )
