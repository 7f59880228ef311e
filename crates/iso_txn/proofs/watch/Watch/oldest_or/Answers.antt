use Rattle.std.proofs.Common.{ap, ◌∙◌}
use Rattle.iso_txn.specs.Watch.{Watch, oldest_or}
use Rattle.iso_txn.proofs.WatchParts.{oldest_is}
use Rattle.iso_txn.proofs.watch.Watch.oldest_or.Goals as goal

pub returns-in-Some : goal.returns-in-Some
returns-in-Some c =
    oldest_is c.args.place c.self.inside.readers.entries c.in-Some.oldest.now c.in-Some.field-0-1.now c.in-Some.ensures.first c.in-Some.ensures.least
    ∙ ap (λ (w : Watch). oldest_or c.args.place w.readers) c.self.view_is
