-- Worked cases of transactions alone and of serial journals, by computation.
use Rattle.std.proofs.Common.{◌≡◌, List, [], ◌∷◌, Some, None, refl, true, false, codes}
use Rattle.rdf_term.specs.declared.term.Term.TheVariants.{Plain}
use Rattle.query_model.specs.declared.query.Query.{Query}
use Rattle.query_model.specs.declared.query.Query.TheVariants.{Ask}
use Rattle.query_model.specs.declared.query.Scope.TheVariants as scope
use Rattle.query_model.specs.declared.query.Slot.TheVariants.{Var}
use Rattle.journal.specs.declared.level.Level.TheVariants.{Serializable}
use Rattle.journal.specs.declared.ask.Ask.TheVariants as ask
use Rattle.journal.specs.declared.op.Op.TheVariants.{Begin, Commit, Read, Step}
use Rattle.journal.specs.declared.entry.Entry.{Entry}
use Rattle.journal.specs.declared.reply.Reply.TheVariants as reply
use Rattle.journal.specs.Journal.{committed_after, judged, reply_at}
use Rattle.journal.specs.Alone.{reply_alone}
use Rattle.journal.specs.Serial.{is_all_serializable, serial_journal}
use Rattle.journal.specs.SerialLaws.{new_place, new_txn}
use Rattle.journal.proofs.ExampleParts.{adds, entry, everything, limits, one, size, three, two, txn}

-- two transactions, of which the second commits first, and a write outside between their calls
abbrev second_commits_first : List Entry
second_commits_first =
    entry (Begin Serializable) ∷ entry (Begin Serializable) ∷ adds (Some (txn 1 Serializable)) one ∷ adds None two
    ∷ entry (Commit (txn 1 Serializable)) ∷ adds (Some (txn 0 Serializable)) three ∷ entry (Commit (txn 0 Serializable)) ∷ []

-- each as one block at its Commit, named by the new place of its Begin
in_blocks : serial_journal limits second_commits_first
    ≡ adds None two
    ∷ entry (Begin Serializable) ∷ adds (Some (txn 1 Serializable)) one ∷ entry (Commit (txn 1 Serializable))
    ∷ entry (Begin Serializable) ∷ adds (Some (txn 4 Serializable)) three ∷ entry (Commit (txn 4 Serializable)) ∷ []
unfolding everything
in_blocks = refl

same_content : (committed_after limits (serial_journal limits second_commits_first) ≡ committed_after limits second_commits_first)
    × (is_all_serializable (judged limits second_commits_first) ≡ true)
unfolding everything
same_content = (refl, refl)

-- the Begin at 0 stands at 4 there, and names its transaction by that place; the entry at 5 is the one behind it, with its reply
renamed_there : (new_txn limits (judged limits second_commits_first) (txn 0 Serializable) 6 ≡ txn 4 Serializable)
    × (reply_at limits second_commits_first 0 ≡ Some (reply.Begun (txn 0 Serializable)))
    × (reply_at limits (serial_journal limits second_commits_first) 4 ≡ Some (reply.Begun (txn 4 Serializable)))
    × (new_place limits (judged limits second_commits_first) (txn 0 Serializable) 6 5 ≡ 5)
unfolding everything
renamed_there = (refl, refl, refl, refl)

-- a transaction that is never committed is left out, and so is a refused Commit
abbrev one_conflicts : List Entry
one_conflicts =
    entry (Begin Serializable) ∷ size (Some (txn 0 Serializable)) ∷ size None ∷ adds None one ∷ entry (Commit (txn 0 Serializable)) ∷ []

left_out : serial_journal limits one_conflicts ≡ size None ∷ adds None one ∷ []
unfolding everything
left_out = refl

-- a size that counts its own quad, and would count one more if it stood behind the write that was committed meanwhile
abbrev counts_its_own : List Entry
counts_its_own =
    entry (Begin Serializable) ∷ adds (Some (txn 0 Serializable)) one ∷ size (Some (txn 0 Serializable)) ∷ adds None two ∷ []

counted : (reply_at limits counts_its_own 2 ≡ Some (reply.Count 1)) × (reply_alone limits (judged limits counts_its_own) (txn 0 Serializable) 4 2 (ask.Size []) ≡ reply.Count 2)
unfolding everything
counted = (refl, refl)

-- a list of the quads with the text 1, with its own quad in it: at the Commit it would be the same, since what was committed meanwhile has another text
abbrev lists_its_own : List Entry
lists_its_own =
    entry (Begin Serializable) ∷ adds (Some (txn 0 Serializable)) one ∷ adds None two
    ∷ entry (Read (Some (txn 0 Serializable)) (ask.List None None (Some (Plain (codes "1"))) [])) ∷ adds None three ∷ entry (Commit (txn 0 Serializable)) ∷ []

listed : (reply_at limits lists_its_own 3 ≡ Some (reply.Quads (one ∷ [])))
    × (reply_alone limits (judged limits lists_its_own) (txn 0 Serializable) 5 3 (ask.List None None (Some (Plain (codes "1"))) []) ≡ reply.Quads (one ∷ []))
    × (reply_at limits lists_its_own 5 ≡ Some reply.Done)
unfolding everything
listed = (refl, refl, refl)

-- Why a Step may name READ_COMMITTED transactions alone: it observes nothing, so in a SERIALIZABLE one it would be answered otherwise in the serial journal.
-- ASK { ?s ?p ?o }
abbrev any_quad : Query
any_quad = Ask (record { s = Var (codes "s"); p = Var (codes "p"); o = Var (codes "o"); g = scope.Any } ∷ [])

abbrev steps_unseen : List Entry
steps_unseen = entry (Begin Serializable) ∷ entry (Step (txn 0 Serializable) any_quad 0) ∷ adds None one ∷ entry (Commit (txn 0 Serializable)) ∷ []

answered_otherwise : (reply_at limits steps_unseen 1 ≡ Some (reply.Truth false)) × (reply_at limits steps_unseen 3 ≡ Some reply.Done)
    × (reply_at limits (serial_journal limits steps_unseen) 2 ≡ Some (reply.Truth true))
unfolding everything
answered_otherwise = (refl, refl, refl)
