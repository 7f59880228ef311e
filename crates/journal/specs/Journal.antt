-- Journals: the words on pasts, said of a list of entries.
use Rattle.std.specs.Prelude.{ℕ, Bool, true, false, ◌&&◌, List, [], ◌∷◌, ◌++◌, take, Option, slice_get, count_by}
use Rattle.std.specs.Option.{option_map}
use Rattle.rdf_term.specs.Statement.{Statement}
use Rattle.journal.specs.declared.txn.Txn.{Txn}
use Rattle.journal.specs.declared.op.Op.{Op}
use Rattle.journal.specs.declared.op.Op.TheVariants.{Commit}
use Rattle.journal.specs.declared.entry.Entry.{Entry}
use Rattle.journal.specs.declared.limits.Limits.{Limits}
use Rattle.journal.specs.declared.reply.Reply.{Reply}
use Rattle.journal.specs.Past.{Judged, is_live}
use Rattle.journal.specs.Committed.{committed, prefixes_of}
use Rattle.journal.specs.Views.{view_at}
use Rattle.journal.specs.Replies.{reply_to, is_accepted}

abbrev pub entry_of : ℕ → Op → Entry
entry_of seat op = record { seat = seat; op = op }

-- the entry behind the past, with whether it is accepted there
abbrev pub judged_entry : Limits → List Judged → Entry → Judged
judged_entry limits past e = record { entry = e; accepted = is_accepted limits past e }

-- the past, and behind it the entries, each judged by what stands before it
abbrev pub judged_behind : Limits → List Judged → List Entry → List Judged
judged_behind limits past [] = past
judged_behind limits past (e ∷ es) = judged_behind limits (past ++ judged_entry limits past e ∷ []) es

-- the past of a journal: each entry, judged by those before it
unfoldable pub judged : Limits → List Entry → List Judged
judged limits journal = judged_behind limits [] journal

-- the reply to an entry that is added to the journal
unfoldable pub reply_next : Limits → List Entry → Entry → Reply
reply_next limits journal e = reply_to limits (judged limits journal) e

-- the reply at a place of the journal, which the entries up to that place fix
unfoldable pub reply_at : Limits → List Entry → ℕ → Option Reply
reply_at limits journal place = option_map (reply_next limits (take place journal)) (slice_get journal place)

-- the committed content behind the journal
unfoldable pub committed_after : Limits → List Entry → List Statement
committed_after limits journal = committed limits (judged limits journal)

-- the prefixes behind the journal
unfoldable pub prefixes_after : Limits → List Entry → List (List ℕ × List ℕ)
prefixes_after limits journal = prefixes_of limits (judged limits journal)

-- what a Read or a Step sees that is added to the journal
unfoldable pub view_after : Limits → List Entry → Option Txn → List Statement
view_after limits journal txn = view_at limits (judged limits journal) txn

-- whether there is no transaction, or it is open behind the journal
unfoldable pub is_live_after : Limits → List Entry → Option Txn → Bool
is_live_after limits journal txn = is_live limits (judged limits journal) txn

abbrev pub is_commit : Op → Bool
is_commit (Commit t) = true
is_commit _ = false

-- the number of accepted Commits
unfoldable pub commits_in : Limits → List Entry → ℕ
commits_in limits journal = count_by (λ (e : Judged). e.accepted && is_commit e.entry.op) (judged limits journal)
