use Rattle.std.proofs.Common.{◌≡◌, true, Some, rules, ap, ◌∙◌}
use Rattle.iso_txn.specs.Watch.{Watch, is_serializable, observed_in}
use Rattle.iso_txn.proofs.WatchParts.{clash_is}
use Rattle.iso_txn.proofs.watch.Watch.clash.Goals as goal

pub returns : goal.returns
returns c =
    let w = c.args.self.now in
    let level : is_serializable c.args.txn ≡ true = search rules in
    let observes : observed_in c.args.txn.place w.readers ≡ Some c.in_ok-observed.observed.now = search rules in
    c.check.ensures ∙ clash_is w c.args.txn c.self.inside.log.kept c.in_ok-observed.observed.now level observes (ap (λ (w : Watch). w.changed) c.self.view_is)
