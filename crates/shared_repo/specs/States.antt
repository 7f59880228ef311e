-- What is true of every repository that is shared, and what its calls ask and tell.
use Rattle.std.specs.Prelude.{◌≡◌, ℕ, true, IsTrue, List, Some}
use Rattle.journal.specs.declared.entry.Entry.{Entry}
use Rattle.journal.specs.declared.reply.Reply.{Reply}
use Rattle.journal.specs.Journal.{reply_at}
use Rattle.journal.specs.Legal.{IsLegal, IsLegalNext}
use Rattle.journal.specs.SerialLaws.{is_stepped_read_committed, steps_read_committed}
use Rattle.iso_txn.specs.Repository.{AreAllowed, Repository}

-- the limits are allowed, the journal is legal, and its Steps name READ_COMMITTED transactions
pub record IsSound (repo : Repository) : Type 0 where
  pub allowed : AreAllowed repo.limits
  pub legal : IsLegal repo.journal
  pub steps : IsTrue (is_stepped_read_committed repo.journal)

-- the entry may stand behind the journal
abbrev pub MayFollow : List Entry → Entry → Type 0
MayFollow journal e = IsLegalNext journal e × (steps_read_committed e.op ≡ true)

-- this is the reply at the place
abbrev pub IsReplyAt : Repository → ℕ → Reply → Type 0
IsReplyAt repo place reply = reply_at repo.limits repo.journal place ≡ Some reply
