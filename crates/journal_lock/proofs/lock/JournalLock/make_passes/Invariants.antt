use Rattle.std.proofs.Common.{◌≡◌, true, Some, vec_len, vec_capacity}
use Rattle.journal_lock.specs.Passes.{AreIdle, AreNew}
use Rattle.journal_lock.proofs.lock.JournalLock.make_passes.Given as goal

abbrev pub invariant-loop-number : goal.invariant-loop-number
invariant-loop-number g l =
    AreIdle l.self l.passes.items × AreNew 0 l.passes.items × (vec_len l.passes ≡ l.number) × (vec_capacity l.passes ≡ l.self.seats)
    × (l.maker.table_id ≡ l.self.table.shared.table_id)
    × (l.maker.me.0.makes ≡ true) × (l.maker.me.0.made ≡ l.number) × (l.maker.me.0.fixed ≡ Some (l.self.table.shared.key.value))
