use Rattle.std.proofs.Common.{◌≡◌, ◌++◌, List}
use Rattle.journal_lock.specs.declared.pass.Pass.{Pass}
use Rattle.journal_lock.specs.Passes.{AreIdle, IsCloserOf, olds_of}
use Rattle.std.proofs.Common.{vec_len}
use Rattle.journal_lock.proofs.lock.JournalLock.gather.Given as goal

abbrev pub invariant-loop-pass : goal.invariant-loop-pass
invariant-loop-pass g l =
    (taken : List (Pass g.row.V.Denot g.row.V-Entry.Denot))
    × (l.initial.passes.items ≡ l.passes.items ++ taken) × AreIdle l.self l.passes.items
    × IsCloserOf l.self (olds_of taken) l.seat

abbrev pub decreases-loop-pass : goal.decreases-loop-pass
decreases-loop-pass g l = vec_len l.passes
