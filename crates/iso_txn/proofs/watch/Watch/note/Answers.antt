use Rattle.std.proofs.Common.{sym, subst}
use Rattle.iso_txn.specs.Watch.{AllBefore, Watch}
use Rattle.iso_txn.proofs.WatchParts.{all_below}
use Rattle.iso_txn.proofs.watch.Watch.note.Goals as goal

pub note-requires : goal.note-requires
note-requires c =
    record { above = all_below c.args.place c.self.inside.log.kept (subst (λ (w : Watch). AllBefore c.args.place w.changed) (sym c.self.view_is) c.requires) }
