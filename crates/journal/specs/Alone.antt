-- What a read would find if its transaction ran alone.
use Rattle.std.specs.Prelude.{◌≡◌, ℕ, true, List, [], ◌∷◌, ◌++◌, take, Some, slice_get}
use Rattle.change_set.specs.Content.{content}
use Rattle.journal.specs.declared.txn.Txn.{Txn}
use Rattle.journal.specs.declared.ask.Ask.{Ask}
use Rattle.journal.specs.declared.op.Op.TheVariants.{Read}
use Rattle.journal.specs.declared.entry.Entry.{Entry}
use Rattle.journal.specs.declared.limits.Limits.{Limits}
use Rattle.journal.specs.declared.reply.Reply.{Reply}
use Rattle.journal.specs.Past.{Judged, own_changes}
use Rattle.journal.specs.Committed.{committed_changes}
use Rattle.journal.specs.Found.{found}
use Rattle.journal.specs.Journal.{entry_of, judged, reply_at}

-- The reply that a Read of t at a place would get if t's calls stood together at its Commit: what is found over the changes committed before the Commit and
-- the changes that t itself had written before the Read.
unfoldable pub reply_alone : Limits → List Judged → Txn → ℕ → ℕ → Ask → Reply
reply_alone limits past t commit place ask =
    found ask (content (committed_changes limits (take commit past) ++ own_changes limits (take place past) t) ∷ []) limits.rows

-- an accepted Read of t with this ask stands at the place
abbrev pub IsReadAt : List Judged → Txn → ℕ → Ask → Type 0
IsReadAt past t place ask = (seat : ℕ) × (slice_get past place ≡ Some (record { entry = entry_of seat (Read (Some t) ask); accepted = true }))

-- each accepted Read of t, whose Commit stands at this place, has the reply that it would get if t ran alone
abbrev pub ReadsAsIfAlone : Limits → List Entry → Txn → ℕ → Type 0
ReadsAsIfAlone limits journal t commit = (place : ℕ) (ask : Ask) → IsReadAt (judged limits journal) t place ask
    → reply_at limits journal place ≡ Some (reply_alone limits (judged limits journal) t commit place ask)
