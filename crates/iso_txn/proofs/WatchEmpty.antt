-- Where no SERIALIZABLE transaction is open, no change is kept, whatever the entry.
use Rattle.std.proofs.Common.{◌≡◌, ℕ, ◌+◌, Bool, true, false, not, cond, List, [], ◌∷◌, ◌++◌, filter, Some, None, refl, sym, ap, ◌∙◌, arith, true≢false}
use Rattle.std.specs.Prelude.{Option, nat_le}
use Rattle.std.specs.Map.{set_value}
use Rattle.std.specs.BTreeMap.{insert_entry, is_at}
use Rattle.std.specs.Ordering.{is_eq, match_ordering, nat_cmp}
use Rattle.std.specs.declared.cmp.Ordering.{Ordering}
use Rattle.std.specs.declared.cmp.Ordering.TheVariants.{Less, Equal, Greater}
use Rattle.std.proofs.lemmas.Bool.Decides.{nat_tests}
use Rattle.rdf_term.specs.declared.pattern.Pattern.{Pattern}
use Rattle.rdf_term.specs.Statement.{Statement}
use Rattle.change_set.specs.declared.change.Change.{Change}
use Rattle.change_set.specs.Content.{applied}
use Rattle.journal.specs.declared.txn.Txn.{Txn}
use Rattle.journal.specs.declared.op.NamesOp.{NamesOp}
use Rattle.journal.specs.declared.limits.Limits.{Limits}
use Rattle.journal.specs.Levels.{commits_at_once}
use Rattle.journal.specs.Committed.{prefixes_with}
use Rattle.journal.specs.Replies.{is_refusal, names_reply, within}
use Rattle.iso_txn.specs.Kept.{Kept, base_at, begin_kept, changed_kept, commit_kept, committed_kept, content_with_own, ended, is_among, is_crowded, is_done, lives, names_kept, read_kept, rollback_kept, waiting, write_kept}
use Rattle.iso_txn.specs.Watch.{AllBefore, Changed, IsEmptyUnwatched, Watch, is_serializable, is_unwatched, observed_in, observing, oldest_or, quads_changed, trimmed_to, watch_begun, watch_ended, watch_noted, watch_read, without_reader}
use Rattle.iso_txn.proofs.WatchLemmas.{before_more, more_before}

-- Readers

inserted : (es : List (ℕ × List Pattern)) (k : ℕ) (v : List Pattern) → is_unwatched (insert_entry nat_cmp es k v) ≡ false
inserted [] k v = refl
inserted (e ∷ es) k v = go (nat_cmp k e.0)
  where
    go : (o : Ordering) → is_unwatched (match_ordering o ((k, v) ∷ e ∷ es) ((e.0, v) ∷ es) (e ∷ insert_entry nat_cmp es k v)) ≡ false
    go Less = refl
    go Equal = refl
    go Greater = refl

with_value : (place : ℕ) (es : List (ℕ × List Pattern)) (v : List Pattern) → is_unwatched (set_value (is_at (nat_cmp place)) es v) ≡ is_unwatched es
with_value place [] v = refl
with_value place (e ∷ es) v = go (is_eq (nat_cmp place e.0))
  where
    go : (b : Bool) → is_unwatched (cond b ((e.0, v) ∷ es) (e ∷ set_value (is_at (nat_cmp place)) es v)) ≡ false
    go true = refl
    go false = refl

observed_more : (place : ℕ) (patterns : List Pattern) (before : Option (List Pattern)) (es : List (ℕ × List Pattern)) → is_unwatched (observing place patterns before es) ≡ is_unwatched es
observed_more place patterns None es = refl
observed_more place patterns (Some before) es = with_value place es (before ++ patterns)

-- none of the changes is at a place or above it
none_from : (n : ℕ) (cs : List Changed) → AllBefore n cs → filter (λ (it : Changed). nat_le n it.place) cs ≡ []
none_from n [] h = refl
none_from n (c ∷ cs) h =
    let off : nat_le n c.place ≡ false = (let lt = h.0 in grind (arith, nat_tests)) in
    ap (λ b. cond b (c ∷ filter (λ (it : Changed). nat_le n it.place) cs) (filter (λ (it : Changed). nat_le n it.place) cs)) off
    ∙ none_from n cs h.1

-- What is watched

begun : (t : Txn) (w : Watch) → IsEmptyUnwatched w → IsEmptyUnwatched (watch_begun t w)
begun t w h = go (is_serializable t)
  where
    go : (b : Bool) → IsEmptyUnwatched (cond b (record w { readers = insert_entry nat_cmp w.readers t.place [] }) w)
    go true = λ none. absurd (true≢false (sym none ∙ inserted w.readers t.place []))
    go false = h

read : (txn : Option Txn) (patterns : List Pattern) (w : Watch) → IsEmptyUnwatched w → IsEmptyUnwatched (watch_read txn patterns w)
read None patterns w h = h
read (Some t) patterns w h = go (is_serializable t)
  where
    go : (b : Bool) → IsEmptyUnwatched (cond b (record w { readers = observing t.place patterns (observed_in t.place w.readers) w.readers }) w)
    go true = λ none. h (sym (observed_more t.place patterns (observed_in t.place w.readers) w.readers) ∙ none)
    go false = h

noted : (place : ℕ) (quads : List Statement) (w : Watch) → IsEmptyUnwatched w → IsEmptyUnwatched (watch_noted place quads w)
noted place quads w h = go (is_unwatched w.readers) refl
  where
    go : (b : Bool) → is_unwatched w.readers ≡ b → IsEmptyUnwatched (cond b w (record w { changed = w.changed ++ record { place = place; quads = quads } ∷ [] }))
    go true is = h
    go false is = λ none. absurd (true≢false (sym none ∙ is))

noted_below : (place : ℕ) (quads : List Statement) (w : Watch) → AllBefore place w.changed → AllBefore (place + 1) (watch_noted place quads w).changed
noted_below place quads w h = go (is_unwatched w.readers)
  where
    it : Changed
    it = record { place = place; quads = quads }

    left : Bool → Watch
    left b = cond b w (record w { changed = w.changed ++ it ∷ [] })

    go : (b : Bool) → AllBefore (place + 1) (left b).changed
    go true = more_before place (place + 1) (omega arith) w.changed h
    go false = before_more place (place + 1) (omega arith) w.changed it h (omega arith)

over : (place : ℕ) (t : Txn) (w : Watch) → AllBefore (place + 1) w.changed → IsEmptyUnwatched w → IsEmptyUnwatched (watch_ended place t w)
over place t w below h = go (is_serializable t)
  where
    rest : List (ℕ × List Pattern)
    rest = without_reader t.place w.readers

    trimmed : (rs : List (ℕ × List Pattern)) → IsEmptyUnwatched (trimmed_to (oldest_or (place + 1) rs) (record w { readers = rs }))
    trimmed [] = λ none. none_from (place + 1) w.changed below
    trimmed (r ∷ rs) = λ none. absurd (true≢false (sym none))

    go : (b : Bool) → IsEmptyUnwatched (cond b (trimmed_to (oldest_or (place + 1) rest) (record w { readers = rest })) w)
    go true = trimmed rest
    go false = h

-- What each call leaves

module _ (l : Limits) (place : ℕ) (k : Kept) (h : IsEmptyUnwatched k.watch) where
  pub begin_empty : (t : Txn) → IsEmptyUnwatched (begin_kept l k t).watch
  begin_empty t = go (is_crowded l k)
    where
      left : Bool → Kept
      left b = cond b k (record k { open_txns = k.open_txns ++ base_at t k.content ∷ []; watch = watch_begun t k.watch })

      go : (b : Bool) → IsEmptyUnwatched (left b).watch
      go true = h
      go false = begun t k.watch h

  pub read_empty : (txn : Option Txn) (patterns : List Pattern) → IsEmptyUnwatched (read_kept k txn patterns).watch
  read_empty txn patterns = read txn patterns k.watch h

  pub names_empty : (names : NamesOp) → IsEmptyUnwatched (names_kept l k names).watch
  names_empty names = go (not (is_refusal (names_reply l k.prefixes names)))
    where
      left : Bool → Kept
      left b = cond b (record k { prefixes = prefixes_with k.prefixes names }) k

      go : (b : Bool) → IsEmptyUnwatched (left b).watch
      go true = h
      go false = h

  pub write_empty : (txn : Option Txn) (changes : List Change) → IsEmptyUnwatched (write_kept l place k txn changes).watch
  write_empty txn changes = go (lives txn k.open_txns) (commits_at_once txn) (within l (applied k.content changes))
    where
      left : Bool → Bool → Bool → Kept
      left live now fits = cond live (cond now (cond fits (changed_kept place k (applied k.content changes)) k) (record k { writes = k.writes ++ waiting txn changes })) k

      go : (live now fits : Bool) → IsEmptyUnwatched (left live now fits).watch
      go true true true = noted place (quads_changed k.content (applied k.content changes)) k.watch h
      go true true false = h
      go true false fits = h
      go false now fits = h

  module _ (below : AllBefore place k.watch.changed) where
    pub rollback_empty : (t : Txn) → IsEmptyUnwatched (rollback_kept place k t).watch
    rollback_empty t = go (is_among t k.open_txns)
      where
        left : Bool → Kept
        left b = cond b (ended place k t) k

        go : (b : Bool) → IsEmptyUnwatched (left b).watch
        go true = over place t k.watch (more_before place (place + 1) (omega arith) k.watch.changed below) h
        go false = h

    pub commit_empty : (t : Txn) → IsEmptyUnwatched (commit_kept l place k t).watch
    commit_empty t = go (is_done l k t)
      where
        left : Bool → Kept
        left b = cond b (committed_kept place k t) k

        changed : List Statement
        changed = quads_changed k.content (content_with_own k t)

        go : (b : Bool) → IsEmptyUnwatched (left b).watch
        go true = over place t (watch_noted place changed k.watch) (noted_below place changed k.watch below) (noted place changed k.watch h)
        go false = h
