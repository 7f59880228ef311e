-- The reply to an entry, and whether the entry is accepted.
use Rattle.std.specs.Prelude.{ℕ, zero, suc, ◌+◌, Bool, true, false, not, ◌&&◌, List, [], ◌∷◌, ◌++◌, length, map, Option, Some, None, nat_eq, nat_le, if◌then◌else◌, find, encode_utf8_all}
use Rattle.std.specs.List.{list_any, list_all, sum_by}
use Rattle.rdf_term.specs.declared.pattern.Pattern.{Pattern}
use Rattle.rdf_term.specs.Statement.{Statement}
use Rattle.rdf_term.specs.Canonical.{canonical_line}
use Rattle.change_set.specs.declared.change.Change.{Change}
use Rattle.change_set.specs.Content.{content}
use Rattle.query_model.specs.declared.query.Query.{Query}
use Rattle.query_model.specs.Solutions.{lookups_of}
use Rattle.journal.specs.declared.txn.Txn.{Txn}
use Rattle.journal.specs.declared.ask.Ask.TheVariants as ask
use Rattle.journal.specs.declared.op.NamesOp.{NamesOp}
use Rattle.journal.specs.declared.op.NamesOp.TheVariants as name
use Rattle.journal.specs.declared.op.Op.{Op}
use Rattle.journal.specs.declared.op.Op.TheVariants.{Begin, Read, Step, Write, Commit, Rollback, Ping, Names}
use Rattle.journal.specs.declared.entry.Entry.{Entry}
use Rattle.journal.specs.declared.limits.Limits.{Limits}
use Rattle.journal.specs.declared.reply.Reply.{Reply}
use Rattle.journal.specs.declared.reply.Reply.TheVariants as reply
use Rattle.journal.specs.Levels.{commits_at_once}
use Rattle.journal.specs.Past.{Judged, is_open, is_live, open_txns, own_changes}
use Rattle.journal.specs.Committed.{committed_changes, prefixes_of, is_prefix}
use Rattle.journal.specs.Views.{view_at}
use Rattle.journal.specs.Found.{found}
use Rattle.journal.specs.Conflicts.{clash_at}

-- What fits

-- the bytes of a quad's canonical line
unfoldable pub line_bytes : Statement → ℕ
line_bytes q = length (encode_utf8_all (canonical_line q))

-- the bytes of the canonical lines of quads
abbrev pub bytes_of : List Statement → ℕ
bytes_of quads = sum_by line_bytes quads

-- quads are within the limits: at most so many, with at most so many bytes
abbrev pub within : Limits → List Statement → Bool
within limits quads = nat_le (length quads) limits.quads && nat_le (bytes_of quads) limits.bytes

-- changes fit where their content is within the limits
abbrev pub fits : Limits → List Change → Bool
fits limits changes = within limits (content changes)

-- done where the changes fit, and else too large
abbrev pub done_if_fits : Limits → List Change → Reply
done_if_fits limits changes = if fits limits changes then reply.Done else reply.TooLarge

-- The reply to each kind of entry, where its transaction is open or it has none

-- a Begin: the transaction of its place, or too many are open
abbrev pub begin_reply : Limits → List Judged → Txn → Reply
begin_reply limits past t = if nat_le limits.txns (length (open_txns limits past)) then reply.TooManyOpen else reply.Begun t

-- a Write that commits at once: too large where the committed changes and its own don't fit; any other is done
abbrev pub write_reply : Limits → List Judged → Option Txn → List Change → Reply
write_reply limits past txn changes =
    if commits_at_once txn then done_if_fits limits (committed_changes limits past ++ changes) else reply.Done

-- a Commit: its clash, or too large where the committed changes and its own don't fit, or done
abbrev pub commit_reply : Limits → List Judged → Txn → Option (Pattern × Statement) → Reply
commit_reply limits past t (Some clash) = reply.Conflict clash.0 clash.1
commit_reply limits past t None = done_if_fits limits (committed_changes limits past ++ own_changes limits past t)

abbrev pub name_reply : Option (List ℕ × List ℕ) → Reply
name_reply None = reply.NoPrefix
name_reply (Some pair) = reply.Prefix pair.1

-- an op on these prefixes: a new one is too large where there are as many as may be
abbrev pub names_reply : Limits → List (List ℕ × List ℕ) → NamesOp → Reply
names_reply limits pairs name.List = reply.Prefixes pairs
names_reply limits pairs (name.Get a) = name_reply (find (is_prefix a) pairs)
names_reply limits pairs (name.Put a b) =
    if list_any (is_prefix a) pairs then reply.Done else if nat_le limits.names (length pairs) then reply.TooLarge else reply.Done
names_reply limits pairs (name.Remove a) = reply.Done
names_reply limits pairs name.Clear = reply.Done

-- The steps of a query

abbrev pub is_of_seat : ℕ → Judged → Bool
is_of_seat seat e = nat_eq e.entry.seat seat

-- what stands before the last entry of the seat
abbrev pub before_last : ℕ → List Judged → List Judged
before_last seat [] = []
before_last seat (e ∷ es) = if list_any (is_of_seat seat) es then e ∷ before_last seat es else []

-- what stands before each of the Steps 0 to n of a query, where the Step n of the seat stands behind the past: one Step back is the seat's last entry
abbrev pub step_pasts : ℕ → ℕ → List Judged → List (List Judged)
step_pasts zero seat past = past ∷ []
step_pasts (suc n) seat past = step_pasts n seat (before_last seat past) ++ past ∷ []

-- what a query finds over the views at its Steps, where t was open at each of them
abbrev pub steps_reply : Limits → Txn → Query → List (List Judged) → Reply
steps_reply limits t query pasts =
    if list_all (λ past. is_open limits past t) pasts
    then found (ask.Query query) (map (λ past. view_at limits past (Some t)) pasts) limits.rows
    else reply.NoTransaction

-- the last Step of a query has its reply, another one is done
abbrev pub step_reply : Limits → List Judged → ℕ → Txn → Query → ℕ → Reply
step_reply limits past seat t query number =
    if nat_eq (number + 1) (lookups_of query) then steps_reply limits t query (step_pasts number seat past) else reply.Done

-- The reply

-- the transaction that an op names; a Begin names none
abbrev pub named_txn : Op → Option Txn
named_txn (Begin l) = None
named_txn (Read txn ask) = txn
named_txn (Step t query number) = Some t
named_txn (Write txn changes) = txn
named_txn (Commit t) = Some t
named_txn (Rollback t) = Some t
named_txn (Ping t) = Some t
named_txn (Names names) = None

abbrev pub live_reply : Limits → List Judged → ℕ → Op → Reply
live_reply limits past seat (Begin l) = begin_reply limits past (record { place = length past; level = l })
live_reply limits past seat (Read txn ask) = found ask (view_at limits past txn ∷ []) limits.rows
live_reply limits past seat (Step t query number) = step_reply limits past seat t query number
live_reply limits past seat (Write txn changes) = write_reply limits past txn changes
live_reply limits past seat (Commit t) = commit_reply limits past t (clash_at limits past t)
live_reply limits past seat (Rollback t) = reply.Done
live_reply limits past seat (Ping t) = reply.Done
live_reply limits past seat (Names names) = names_reply limits (prefixes_of limits past) names

-- the reply to the entry behind the past: no transaction where it names one that isn't open
unfoldable pub reply_to : Limits → List Judged → Entry → Reply
reply_to limits past e =
    if is_live limits past (named_txn e.op) then live_reply limits past e.seat e.op else reply.NoTransaction

-- Acceptance

abbrev pub is_refusal : Reply → Bool
is_refusal reply.NoTransaction = true
is_refusal reply.TooManyOpen = true
is_refusal (reply.Conflict pattern quad) = true
is_refusal reply.TooLarge = true
is_refusal _ = false

abbrev pub accepts : Limits → List Judged → Entry → Op → Bool
accepts limits past e (Read txn ask) = is_live limits past txn
accepts limits past e (Step t query number) = is_open limits past t
accepts limits past e _ = not (is_refusal (reply_to limits past e))

-- The entry behind the past is accepted: a Read or a Step where its transaction is open or it has none, any other entry where its reply is no refusal.
unfoldable pub is_accepted : Limits → List Judged → Entry → Bool
is_accepted limits past e = accepts limits past e e.op
