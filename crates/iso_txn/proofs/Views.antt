-- What a read sees and a commit applies, in the words of what is kept.
use Rattle.std.proofs.Common.{◌≡◌, ℕ, Bool, true, false, not, ◌&&◌, ◌||◌, List, [], ◌∷◌, ◌++◌, take, map, Some, None, refl, sym, ◌∙◌, ap, append-nil, cond, true≢false}
use Rattle.std.specs.Prelude.{Option, if◌then◌else◌}
use Rattle.std.specs.Option.{is_some, option_map, unwrap_or}
use Rattle.std.specs.List.{flat_map}
use Rattle.std.proofs.lemmas.List.Concat.{flat_map-append}
use Rattle.rdf_term.specs.Statement.{Statement}
use Rattle.change_set.specs.declared.change.Change.{Change}
use Rattle.change_set.specs.Content.{content, applied}
use Rattle.journal.specs.declared.level.Level.{Level}
use Rattle.journal.specs.declared.level.Level.TheVariants.{NoIsolation, ReadUncommitted, ReadCommitted, SnapshotRead, Snapshot, Serializable}
use Rattle.journal.specs.declared.txn.Txn.{Txn}
use Rattle.journal.specs.declared.entry.Entry.{Entry}
use Rattle.journal.specs.declared.op.Op.{Op}
use Rattle.journal.specs.declared.op.Op.TheVariants.{Begin, Read, Step, Write, Commit, Rollback, Ping, Names}
use Rattle.journal.specs.declared.limits.Limits.{Limits}
use Rattle.journal.specs.Levels.{commits_at_once, is_level, is_txn, sees_begin}
use Rattle.journal.specs.LevelLaws.{txn_is}
use Rattle.journal.specs.Past.{Judged, is_open, open_txns, own_by_level, own_changes, written}
use Rattle.journal.specs.Committed.{committed, committed_changes}
use Rattle.journal.specs.Views.{dirty_changes, uncommitted, view_at, view_by_level}
use Rattle.journal.specs.Journal.{committed_after, is_live_after, judged, view_after}
use Rattle.iso_txn.specs.Kept.{Kept, Opened, Pending, Standing, changes_where, find_open, is_among, lives, opened, opened_in, pending, pending_of, pending_op, picked, seen, sees, sees_at}
use Rattle.iso_txn.specs.Repository.{PinnedRead, pinned_of}
use Rattle.iso_txn.proofs.Steps.{committed-nothing, content-append, is_open-opened, live-opened}

pub where-append : (test : Txn → Bool) (xs ys : List Pending) → changes_where test (xs ++ ys) ≡ changes_where test xs ++ changes_where test ys
where-append test xs ys = flat_map-append (picked test) xs ys

-- The pending writes of one transaction

own_op : (l : Limits) (p : List Judged) (t u : Txn) (changes : List Change) → is_open l p t ≡ true → commits_at_once (Some t) ≡ false
    → cond (is_txn t u) changes [] ≡ changes_where (is_txn t) (let w : Pending = record { txn = u; changes = changes } in cond (not (commits_at_once (Some u)) && is_open l p u) (w ∷ []) [])
own_op l p t u changes live later = go (is_txn t u) refl
  where
    w : Pending
    w = record { txn = u; changes = changes }

    none : (b : Bool) → is_txn t u ≡ false → [] ≡ changes_where (is_txn t) (cond b (w ∷ []) [])
    none true differ = ap (λ b. cond b changes [] ++ []) (sym differ)
    none false differ = refl

    go : (b : Bool) → is_txn t u ≡ b → cond b changes [] ≡ changes_where (is_txn t) (cond (not (commits_at_once (Some u)) && is_open l p u) (w ∷ []) [])
    go true same =
        let is : t ≡ u = txn_is t u same in
        let a : commits_at_once (Some u) ≡ false = ap (λ x. commits_at_once (Some x)) (sym is) ∙ later in
        let o : is_open l p u ≡ true = ap (is_open l p) (sym is) ∙ live in
        sym ((λ i. changes_where (is_txn t) (cond (not (a i) && o i) (w ∷ []) [])) ∙ (ap (λ b. cond b changes [] ++ []) same ∙ append-nil changes))
    go false differ = none (not (commits_at_once (Some u)) && is_open l p u) differ

own_entry : (l : Limits) (p : List Judged) (t : Txn) (op : Op) → is_open l p t ≡ true → commits_at_once (Some t) ≡ false → written t op ≡ changes_where (is_txn t) (pending_op l p op)
own_entry l p t (Begin level) live later = refl
own_entry l p t (Read txn ask) live later = refl
own_entry l p t (Step u query number) live later = refl
own_entry l p t (Write None changes) live later = refl
own_entry l p t (Write (Some u) changes) live later = own_op l p t u changes live later
own_entry l p t (Commit u) live later = refl
own_entry l p t (Rollback u) live later = refl
own_entry l p t (Ping u) live later = refl
own_entry l p t (Names names) live later = refl

own_all : (l : Limits) (p : List Judged) (t : Txn) → is_open l p t ≡ true → commits_at_once (Some t) ≡ false → (es : List Judged)
    → flat_map (λ (e : Judged). if e.accepted then written t e.entry.op else []) es ≡ changes_where (is_txn t) (flat_map (pending_of l p) es)
own_all l p t live later [] = refl
own_all l p t live later (e ∷ es) =
    (λ i. go e.accepted i ++ own_all l p t live later es i)
    ∙ sym (where-append (is_txn t) (pending_of l p e) (flat_map (pending_of l p) es))
  where
    go : (b : Bool) → cond b (written t e.entry.op) [] ≡ changes_where (is_txn t) (cond b (pending_op l p e.entry.op) [])
    go true = own_entry l p t e.entry.op live later
    go false = refl

none_op : (l : Limits) (p : List Judged) (t u : Txn) (changes : List Change) → commits_at_once (Some t) ≡ true
    → changes_where (is_txn t) (let w : Pending = record { txn = u; changes = changes } in cond (not (commits_at_once (Some u)) && is_open l p u) (w ∷ []) []) ≡ []
none_op l p t u changes now = go (is_txn t u) refl
  where
    w : Pending
    w = record { txn = u; changes = changes }

    none : (b : Bool) → is_txn t u ≡ false → changes_where (is_txn t) (cond b (w ∷ []) []) ≡ []
    none true differ = ap (λ b. cond b changes [] ++ []) differ
    none false differ = refl

    go : (b : Bool) → is_txn t u ≡ b → changes_where (is_txn t) (cond (not (commits_at_once (Some u)) && is_open l p u) (w ∷ []) []) ≡ []
    go true same = ap (λ a. changes_where (is_txn t) (cond (not a && is_open l p u) (w ∷ []) [])) (ap (λ x. commits_at_once (Some x)) (sym (txn_is t u same)) ∙ now)
    go false differ = none (not (commits_at_once (Some u)) && is_open l p u) differ

none_entry : (l : Limits) (p : List Judged) (t : Txn) (op : Op) → commits_at_once (Some t) ≡ true → changes_where (is_txn t) (pending_op l p op) ≡ []
none_entry l p t (Begin level) now = refl
none_entry l p t (Read txn ask) now = refl
none_entry l p t (Step u query number) now = refl
none_entry l p t (Write None changes) now = refl
none_entry l p t (Write (Some u) changes) now = none_op l p t u changes now
none_entry l p t (Commit u) now = refl
none_entry l p t (Rollback u) now = refl
none_entry l p t (Ping u) now = refl
none_entry l p t (Names names) now = refl

none_all : (l : Limits) (p : List Judged) (t : Txn) → commits_at_once (Some t) ≡ true → (es : List Judged) → changes_where (is_txn t) (flat_map (pending_of l p) es) ≡ []
none_all l p t now [] = refl
none_all l p t now (e ∷ es) =
    where-append (is_txn t) (pending_of l p e) (flat_map (pending_of l p) es)
    ∙ (λ i. go e.accepted i ++ none_all l p t now es i)
  where
    go : (b : Bool) → changes_where (is_txn t) (cond b (pending_op l p e.entry.op) []) ≡ []
    go true = none_entry l p t e.entry.op now
    go false = refl

-- an open transaction's own changes are those of its pending writes
own_pending : (l : Limits) (p : List Judged) (t : Txn) → is_open l p t ≡ true → own_changes l p t ≡ changes_where (is_txn t) (pending l p)
unfolding own_changes pending
own_pending l p t live = go t.level refl
  where
    go : (v : Level) → t.level ≡ v → own_by_level v t p ≡ changes_where (is_txn t) (flat_map (pending_of l p) p)
    go NoIsolation is = sym (none_all l p t (ap (λ v. is_level v NoIsolation) is) p)
    go ReadUncommitted is = own_all l p t live (ap (λ v. is_level v NoIsolation) is) p
    go ReadCommitted is = own_all l p t live (ap (λ v. is_level v NoIsolation) is) p
    go SnapshotRead is = own_all l p t live (ap (λ v. is_level v NoIsolation) is) p
    go Snapshot is = own_all l p t live (ap (λ v. is_level v NoIsolation) is) p
    go Serializable is = own_all l p t live (ap (λ v. is_level v NoIsolation) is) p

-- Those of READ_UNCOMMITTED transactions

abbrev is_dirty : Txn → Bool
is_dirty u = is_level u.level ReadUncommitted

dirty_level : (v : Level) (o : Bool) (u : Txn) (changes : List Change) → u.level ≡ v
    → cond (is_level v ReadUncommitted && o) changes [] ≡ changes_where is_dirty (let w : Pending = record { txn = u; changes = changes } in cond (not (is_level v NoIsolation) && o) (w ∷ []) [])
dirty_level NoIsolation o u changes is = refl
dirty_level ReadUncommitted true u changes is = sym (ap (λ v. cond (is_level v ReadUncommitted) changes [] ++ []) is ∙ append-nil changes)
dirty_level ReadUncommitted false u changes is = refl
dirty_level ReadCommitted true u changes is = sym (ap (λ v. cond (is_level v ReadUncommitted) changes [] ++ []) is)
dirty_level ReadCommitted false u changes is = refl
dirty_level SnapshotRead true u changes is = sym (ap (λ v. cond (is_level v ReadUncommitted) changes [] ++ []) is)
dirty_level SnapshotRead false u changes is = refl
dirty_level Snapshot true u changes is = sym (ap (λ v. cond (is_level v ReadUncommitted) changes [] ++ []) is)
dirty_level Snapshot false u changes is = refl
dirty_level Serializable true u changes is = sym (ap (λ v. cond (is_level v ReadUncommitted) changes [] ++ []) is)
dirty_level Serializable false u changes is = refl

dirty_entry : (l : Limits) (p : List Judged) (op : Op) → uncommitted l p op ≡ changes_where is_dirty (pending_op l p op)
dirty_entry l p (Begin level) = refl
dirty_entry l p (Read txn ask) = refl
dirty_entry l p (Step u query number) = refl
dirty_entry l p (Write None changes) = refl
dirty_entry l p (Write (Some u) changes) = dirty_level u.level (is_open l p u) u changes refl
dirty_entry l p (Commit u) = refl
dirty_entry l p (Rollback u) = refl
dirty_entry l p (Ping u) = refl
dirty_entry l p (Names names) = refl

dirty_all : (l : Limits) (p es : List Judged) → flat_map (λ (e : Judged). if e.accepted then uncommitted l p e.entry.op else []) es ≡ changes_where is_dirty (flat_map (pending_of l p) es)
dirty_all l p [] = refl
dirty_all l p (e ∷ es) =
    (λ i. go e.accepted i ++ dirty_all l p es i)
    ∙ sym (where-append is_dirty (pending_of l p e) (flat_map (pending_of l p) es))
  where
    go : (b : Bool) → cond b (uncommitted l p e.entry.op) [] ≡ changes_where is_dirty (cond b (pending_op l p e.entry.op) [])
    go true = dirty_entry l p e.entry.op
    go false = refl

-- the dirty changes are those of the pending writes at that level
dirty_pending : (l : Limits) (p : List Judged) → dirty_changes l p ≡ changes_where is_dirty (pending l p)
unfolding dirty_changes pending
dirty_pending l p = dirty_all l p p

-- Views

where-none : (ws : List Pending) → changes_where (λ u. false) ws ≡ []
where-none [] = refl
where-none (w ∷ ws) = where-none ws

view_over : (l : Limits) (q : List Judged) (xs ys : List Change) → xs ≡ ys → content (committed_changes l q ++ xs) ≡ applied (committed l q) ys
unfolding committed
view_over l q xs ys same = ap (λ xs. content (committed_changes l q ++ xs)) same ∙ content-append (committed_changes l q) ys

-- what a read of an open transaction sees: its base, and the pending writes that it sees
view_of_open : (l : Limits) (p : List Judged) (t : Txn) → is_open l p t ≡ true
    → view_at l p (Some t) ≡ applied (unwrap_or (opened l p t).base (committed l p)) (changes_where (sees t) (pending l p))
unfolding view_at
view_of_open l p t live = go t.level
  where
    go : (v : Level) → view_by_level v l p t ≡ applied (unwrap_or (if sees_begin v then Some (committed l (take t.place p)) else None) (committed l p)) (changes_where (sees_at v t) (pending l p))
    go NoIsolation = sym (ap (applied (committed l p)) (where-none (pending l p)) ∙ committed-nothing l p)
    go ReadUncommitted = view_over l p (dirty_changes l p) _ (dirty_pending l p)
    go ReadCommitted = view_over l p (own_changes l p t) _ (own_pending l p t live)
    go SnapshotRead = view_over l p (own_changes l p t) _ (own_pending l p t live)
    go Snapshot = view_over l (take t.place p) (own_changes l p t) _ (own_pending l p t live)
    go Serializable = view_over l (take t.place p) (own_changes l p t) _ (own_pending l p t live)

find-map : (l : Limits) (p : List Judged) (t : Txn) (ts : List Txn) (o : Opened) → find_open t (map (opened l p) ts) ≡ Some o → o ≡ opened l p t
find-map l p t [] o is = cc
find-map l p t (u ∷ ts) o is = go (is_txn t u) refl is (find-map l p t ts o)
  where
    go : (b : Bool) → is_txn t u ≡ b → cond b (Some (opened l p u)) (find_open t (map (opened l p) ts)) ≡ Some o
        → (find_open t (map (opened l p) ts) ≡ Some o → o ≡ opened l p t) → o ≡ opened l p t
    go true same is ih =
        let there : opened l p u ≡ o = cc in
        sym there ∙ ap (opened l p) (sym (txn_is t u same))
    go false differ is ih = ih is

-- a transaction is found exactly where it is among the open ones
pub find-among : (t : Txn) (os : List Opened) → is_some (find_open t os) ≡ is_among t os
find-among t [] = refl
find-among t (o ∷ os) = go (is_txn t o.txn) (find-among t os)
  where
    go : (b : Bool) → is_some (find_open t os) ≡ is_among t os → is_some (cond b (Some o) (find_open t os)) ≡ (b || is_among t os)
    go true ih = refl
    go false ih = ih

module _ (l : Limits) (J : List Entry) (k : Kept) (h : Standing l J k) where
  -- whether there is no transaction, or it is open
  pub live_is : (txn : Option Txn) → is_live_after l J txn ≡ lives txn k.open_txns
  unfolding is_live_after
  live_is txn = live-opened l (judged l J) txn ∙ ap (lives txn) (sym h.opened_is)

  -- what an open transaction would commit
  pub own_is : (t : Txn) → is_among t k.open_txns ≡ true → own_changes l (judged l J) t ≡ changes_where (is_txn t) k.writes
  own_is t live =
      let p : List Judged = judged l J in
      own_pending l p t (is_open-opened l p t ∙ (ap (is_among t) (sym h.opened_is) ∙ live)) ∙ ap (changes_where (is_txn t)) (sym h.writes_are)

  view_some : (t : Txn) (o : Opened) → find_open t k.open_txns ≡ Some o
      → view_at l (judged l J) (Some t) ≡ applied (unwrap_or o.base k.content) (changes_where (sees t) k.writes)
  unfolding opened_in
  view_some t o is =
      let p : List Judged = judged l J in
      let there : o ≡ opened l p t = find-map l p t (open_txns l p) o (ap (find_open t) (sym h.opened_is) ∙ is) in
      let live : is_open l p t ≡ true = is_open-opened l p t ∙ (ap (is_among t) (sym h.opened_is) ∙ (sym (find-among t k.open_txns) ∙ ap is_some is)) in
      view_of_open l p t live
      ∙ (λ i. applied (unwrap_or (sym there i).base (sym h.content_is i)) (changes_where (sees t) (sym h.writes_are i)))

  view_none : view_at l (judged l J) None ≡ k.content
  unfolding view_at
  view_none = sym h.content_is

  -- what a read sees
  pub seen_is : (txn : Option Txn) (view : List Statement) → seen k txn ≡ Some view → view ≡ view_after l J txn
  unfolding view_after
  seen_is None view is = let there : k.content ≡ view = cc in sym there ∙ sym view_none
  seen_is (Some t) view is = go (find_open t k.open_txns) refl is
    where
      go : (found : Option Opened) → find_open t k.open_txns ≡ found
          → option_map (λ (o : Opened). applied (unwrap_or o.base k.content) (changes_where (sees t) k.writes)) found ≡ Some view → view ≡ view_at l (judged l J) (Some t)
      go None absent is = cc
      go (Some o) there is =
          let same : applied (unwrap_or o.base k.content) (changes_where (sees t) k.writes) ≡ view = cc in
          sym same ∙ sym (view_some t o there)

  -- it sees something exactly where there is no transaction, or it is open
  pub seen_live : (txn : Option Txn) → is_some (seen k txn) ≡ is_live_after l J txn
  seen_live None = sym (live_is None)
  seen_live (Some t) = some_map (find_open t k.open_txns) ∙ (find-among t k.open_txns ∙ sym (live_is (Some t)))
    where
      some_map : (found : Option Opened) → is_some (option_map (λ (o : Opened). applied (unwrap_or o.base k.content) (changes_where (sees t) k.writes)) found) ≡ is_some found
      some_map None = refl
      some_map (Some o) = refl

  -- what is pinned
  pub pinned_live : (txn : Option Txn) (rows : ℕ) (it : PinnedRead) → it ≡ pinned_of (seen k txn) rows → it.live ≡ is_live_after l J txn
  pinned_live txn rows it is = ap (λ (r : PinnedRead). r.live) is ∙ (go (seen k txn) ∙ seen_live txn)
    where
      go : (view : Option (List Statement)) → (pinned_of view rows).live ≡ is_some view
      go None = refl
      go (Some view) = refl

  pub pinned_views : (txn : Option Txn) (rows : ℕ) (it : PinnedRead) → it ≡ pinned_of (seen k txn) rows → it.live ≡ true → it.views ≡ view_after l J txn ∷ []
  pinned_views txn rows it is live = ap (λ (r : PinnedRead). r.views) is ∙ go (seen k txn) refl (sym (ap (λ (r : PinnedRead). r.live) is) ∙ live)
    where
      go : (view : Option (List Statement)) → seen k txn ≡ view → (pinned_of view rows).live ≡ true → (pinned_of view rows).views ≡ view_after l J txn ∷ []
      go None absent live = absurd (true≢false (sym live))
      go (Some view) there live = ap (λ v. v ∷ []) (seen_is txn view there)

  pub pinned_rows : (txn : Option Txn) (rows : ℕ) (it : PinnedRead) → it ≡ pinned_of (seen k txn) rows → it.rows ≡ rows
  pinned_rows txn rows it is = ap (λ (r : PinnedRead). r.rows) is ∙ go (seen k txn)
    where
      go : (view : Option (List Statement)) → (pinned_of view rows).rows ≡ rows
      go None = refl
      go (Some view) = refl

  -- where the transaction is open, what is seen is its view
  pub seen_open : (t : Txn) (other : List Statement) → is_live_after l J (Some t) ≡ true → unwrap_or (seen k (Some t)) other ≡ view_after l J (Some t)
  seen_open t other live = go (seen k (Some t)) refl
    where
      go : (view : Option (List Statement)) → seen k (Some t) ≡ view → unwrap_or view other ≡ view_after l J (Some t)
      go None absent = absurd (true≢false (sym live ∙ (sym (seen_live (Some t)) ∙ ap is_some absent)))
      go (Some view) there = seen_is (Some t) view there

  pub content_after : k.content ≡ committed_after l J
  unfolding committed_after
  content_after = h.content_is
