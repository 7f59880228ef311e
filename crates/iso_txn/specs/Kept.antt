-- What a repository keeps of its journal, and what each call answers and leaves in these words.
use Rattle.std.specs.Prelude.{◌≡◌, ℕ, ◌+◌, Bool, true, false, not, ◌&&◌, List, [], ◌∷◌, ◌++◌, length, map, filter, take, Option, Some, None, nat_le, if◌then◌else◌, find}
use Rattle.std.specs.List.{flat_map, list_any}
use Rattle.std.specs.Option.{is_some, option_map, unwrap_or}
use Rattle.rdf_term.specs.declared.pattern.Pattern.{Pattern}
use Rattle.rdf_term.specs.Statement.{Statement}
use Rattle.change_set.specs.declared.change.Change.{Change}
use Rattle.change_set.specs.Content.{applied}
use Rattle.journal.specs.declared.level.Level.{Level}
use Rattle.journal.specs.declared.level.Level.TheVariants.{NoIsolation, ReadUncommitted, ReadCommitted, SnapshotRead, Snapshot, Serializable}
use Rattle.journal.specs.declared.txn.Txn.{Txn}
use Rattle.journal.specs.declared.op.Op.{Op}
use Rattle.journal.specs.declared.op.Op.TheVariants.{Write}
use Rattle.journal.specs.declared.op.NamesOp.{NamesOp}
use Rattle.journal.specs.declared.entry.Entry.{Entry}
use Rattle.journal.specs.declared.limits.Limits.{Limits}
use Rattle.journal.specs.declared.reply.Reply.{Reply}
use Rattle.journal.specs.declared.reply.Reply.TheVariants as reply
use Rattle.journal.specs.Levels.{commits_at_once, is_level, is_txn, sees_begin}
use Rattle.journal.specs.Past.{Judged, is_open, open_txns}
use Rattle.journal.specs.Committed.{committed, prefixes_of, prefixes_with}
use Rattle.journal.specs.Replies.{is_refusal, names_reply, within}
use Rattle.journal.specs.Journal.{commits_in, judged}
use Rattle.iso_txn.specs.Watch.{Watch, nothing_watched, quads_changed, watch_begun, watch_ended, watch_noted, watch_read, watched_clash}

-- Pending writes

-- a write that isn't committed: its transaction and its changes
pub record Pending : Type 0 where
  pub txn : Txn
  pub changes : List Change

abbrev pub pending_op : Limits → List Judged → Op → List Pending
pending_op limits past (Write (Some t) changes) =
    if not (commits_at_once (Some t)) && is_open limits past t then record { txn = t; changes = changes } ∷ [] else []
pending_op limits past _ = []

abbrev pub pending_of : Limits → List Judged → Judged → List Pending
pending_of limits past e = if e.accepted then pending_op limits past e.entry.op else []

-- the accepted writes of open transactions, in the order of the journal
unfoldable pub pending : Limits → List Judged → List Pending
pending limits past = flat_map (pending_of limits past) past

-- the changes of a pending write whose transaction passes a test
abbrev pub picked : (Txn → Bool) → Pending → List Change
picked test w = if test w.txn then w.changes else []

-- the changes of the pending writes whose transactions pass a test, joined in order
abbrev pub changes_where : (Txn → Bool) → List Pending → List Change
changes_where test ws = flat_map (picked test) ws

-- without those of one transaction
abbrev pub pending_without : Txn → List Pending → List Pending
pending_without t ws = filter (λ (w : Pending). not (is_txn w.txn t)) ws

-- whether a read in a transaction of this level sees the pending writes of another one, or its own
abbrev pub sees_at : Level → Txn → Txn → Bool
sees_at NoIsolation t u = false
sees_at ReadUncommitted t u = is_level u.level ReadUncommitted
sees_at ReadCommitted t u = is_txn t u
sees_at SnapshotRead t u = is_txn t u
sees_at Snapshot t u = is_txn t u
sees_at Serializable t u = is_txn t u

abbrev pub sees : Txn → Txn → Bool
sees t u = sees_at t.level t u

-- Open transactions

-- an open transaction, with the content that was committed before its begin where it reads that one
pub record Opened : Type 0 where
  pub txn : Txn
  pub base : Option (List Statement)

abbrev pub base_at : Txn → List Statement → Opened
base_at t content = record { txn = t; base = if sees_begin t.level then Some content else None }

abbrev pub opened : Limits → List Judged → Txn → Opened
opened limits past t = base_at t (committed limits (take t.place past))

-- the open transactions, in the order of their begins
unfoldable pub opened_in : Limits → List Judged → List Opened
opened_in limits past = map (opened limits past) (open_txns limits past)

-- the transaction is among these
abbrev pub is_among : Txn → List Opened → Bool
is_among t os = list_any (λ (o : Opened). is_txn t o.txn) os

-- there is no transaction, or it is among these
abbrev pub lives : Option Txn → List Opened → Bool
lives None os = true
lives (Some t) os = is_among t os

-- without one transaction
abbrev pub without : Txn → List Opened → List Opened
without t os = filter (λ (o : Opened). not (is_txn o.txn t)) os

-- the open transaction that is looked for
abbrev pub find_open : Txn → List Opened → Option Opened
find_open t os = find (λ (o : Opened). is_txn t o.txn) os

-- What is kept

-- the committed content, the open transactions, their pending writes, the prefixes, the number of accepted Commits, and what is kept for SERIALIZABLE transactions
pub record Kept : Type 0 where
  pub content : List Statement
  pub open_txns : List Opened
  pub writes : List Pending
  pub prefixes : List (List ℕ × List ℕ)
  pub commits : ℕ
  pub watch : Watch

-- of a journal without entries
abbrev pub nothing_kept : Kept
nothing_kept = record { content = []; open_txns = []; writes = []; prefixes = []; commits = 0; watch = nothing_watched }

-- what is kept for all transactions stands for the journal
pub record Standing (limits : Limits) (journal : List Entry) (kept : Kept) : Type 0 where
  pub content_is : kept.content ≡ committed limits (judged limits journal)
  pub opened_is : kept.open_txns ≡ opened_in limits (judged limits journal)
  pub writes_are : kept.writes ≡ pending limits (judged limits journal)
  pub prefixes_are : kept.prefixes ≡ prefixes_of limits (judged limits journal)
  pub commits_are : kept.commits ≡ commits_in limits journal

-- What each call answers, and what it leaves

-- as many transactions are open as may be
abbrev pub is_crowded : Limits → Kept → Bool
is_crowded limits kept = nat_le limits.txns (length kept.open_txns)

abbrev pub begin_answer : Limits → Kept → Txn → Reply
begin_answer limits kept t = if is_crowded limits kept then reply.TooManyOpen else reply.Begun t

abbrev pub begin_kept : Limits → Kept → Txn → Kept
begin_kept limits kept t = if is_crowded limits kept then kept else record kept { open_txns = kept.open_txns ++ base_at t kept.content ∷ []; watch = watch_begun t kept.watch }

abbrev pub done_if : Bool → Reply
done_if fits = if fits then reply.Done else reply.TooLarge

-- what these changes do to the content where the limits allow it: the quads that they change
abbrev pub changed_within : Limits → List Statement → List Change → Option (List Statement)
changed_within limits content changes = if within limits (applied content changes) then Some (quads_changed content (applied content changes)) else None

-- the entry at a place makes this content of the one that was there
abbrev pub changed_kept : ℕ → Kept → List Statement → Kept
changed_kept place kept content = record kept { content = content; watch = watch_noted place (quads_changed kept.content content) kept.watch }

-- the entry at a place applies these changes where the limits allow it
abbrev pub applied_kept : Limits → ℕ → Kept → List Change → Kept
applied_kept limits place kept changes = if within limits (applied kept.content changes) then changed_kept place kept (applied kept.content changes) else kept

abbrev pub write_answer : Limits → Kept → Option Txn → List Change → Reply
write_answer limits kept txn changes =
    if lives txn kept.open_txns
    then if commits_at_once txn then done_if (within limits (applied kept.content changes)) else reply.Done
    else reply.NoTransaction

-- the pending write of a transaction
abbrev pub waiting : Option Txn → List Change → List Pending
waiting None changes = []
waiting (Some t) changes = record { txn = t; changes = changes } ∷ []

abbrev pub write_kept : Limits → ℕ → Kept → Option Txn → List Change → Kept
write_kept limits place kept txn changes =
    if lives txn kept.open_txns
    then if commits_at_once txn then applied_kept limits place kept changes else record kept { writes = kept.writes ++ waiting txn changes }
    else kept

-- what a Commit of the transaction leaves of the content
abbrev pub content_with_own : Kept → Txn → List Statement
content_with_own kept t = applied kept.content (changes_where (is_txn t) kept.writes)

-- the conflict where there is a clash, else another reply
abbrev pub conflict_or : Option (Pattern × Statement) → Reply → Reply
conflict_or (Some clash) other = reply.Conflict clash.0 clash.1
conflict_or None other = other

abbrev pub commit_answer : Limits → Kept → Txn → Reply
commit_answer limits kept t =
    if is_among t kept.open_txns
    then conflict_or (watched_clash kept.watch t) (done_if (within limits (content_with_own kept t)))
    else reply.NoTransaction

-- the entry at a place ends a transaction
abbrev pub ended : ℕ → Kept → Txn → Kept
ended place kept t =
    record kept { open_txns = without t kept.open_txns; writes = pending_without t kept.writes; watch = watch_ended place t kept.watch }

abbrev pub committed_kept : ℕ → Kept → Txn → Kept
committed_kept place kept t = record (ended place (changed_kept place kept (content_with_own kept t)) t) { commits = kept.commits + 1 }

-- whether a Commit of the transaction is done
abbrev pub is_done : Limits → Kept → Txn → Bool
is_done limits kept t = is_among t kept.open_txns && (not (is_some (watched_clash kept.watch t)) && within limits (content_with_own kept t))

abbrev pub commit_kept : Limits → ℕ → Kept → Txn → Kept
commit_kept limits place kept t = if is_done limits kept t then committed_kept place kept t else kept

abbrev pub end_answer : Kept → Txn → Reply
end_answer kept t = if is_among t kept.open_txns then reply.Done else reply.NoTransaction

abbrev pub rollback_kept : ℕ → Kept → Txn → Kept
rollback_kept place kept t = if is_among t kept.open_txns then ended place kept t else kept

-- a read observes these patterns
abbrev pub read_kept : Kept → Option Txn → List Pattern → Kept
read_kept kept txn patterns = record kept { watch = watch_read txn patterns kept.watch }

-- a refused Put leaves the prefixes
abbrev pub names_kept : Limits → Kept → NamesOp → Kept
names_kept limits kept names =
    if not (is_refusal (names_reply limits kept.prefixes names)) then record kept { prefixes = prefixes_with kept.prefixes names } else kept

-- what a read sees, where its transaction is open or it has none
abbrev pub seen : Kept → Option Txn → Option (List Statement)
seen kept None = Some kept.content
seen kept (Some t) =
    option_map (λ (o : Opened). applied (unwrap_or o.base kept.content) (changes_where (sees t) kept.writes)) (find_open t kept.open_txns)
