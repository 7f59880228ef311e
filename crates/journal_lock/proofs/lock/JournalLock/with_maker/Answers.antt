use Rattle.std.proofs.Common.{sym, ap}
use Rattle.journal_lock.proofs.Seats.{begins}
use Rattle.journal_lock.proofs.lock.JournalLock.with_maker.Goals as goal

pub new-requires : goal.new-requires
new-requires g c = rw (c.push_reserved.ensures.items, c.in_ok-slots.ensures.items) (begins _ _ _ _ _ _ c.args.value c.requires.empty (ap g.V.Journaled.fixed (sym c.of.ensures)))
