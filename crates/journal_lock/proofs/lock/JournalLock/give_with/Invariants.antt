use Rattle.std.proofs.Common.{[], ◌∷◌}
use Rattle.journal_lock.proofs.lock.JournalLock.give_with.Given as goal

abbrev pub ghosts-add_entry : goal.ghosts-add_entry
ghosts-add_entry g a = record { added = a.entry.now ∷ [] }
