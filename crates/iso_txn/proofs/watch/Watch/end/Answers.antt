use Rattle.std.proofs.Common.{◌≡◌, true, rules, ap, ◌∙◌}
use Rattle.iso_txn.specs.Watch.{is_serializable, watch_ended}
use Rattle.iso_txn.proofs.WatchParts.{ended_is}
use Rattle.iso_txn.proofs.watch.Watch.end.Goals as goal

pub returns : goal.returns
returns c =
    let s = c.self.inside in
    let level : is_serializable c.args.txn ≡ true = search rules in
    ended_is c.args.place c.args.txn s.readers.entries c.remove.new.self.entries s.log.kept c.trim.new.self.kept s.log.trimmed c.trim.new.self.trimmed c.oldest_or-oldest.result level
    c.len.ensures.ordered c.remove.ensures.entries c.oldest_or-oldest.ensures c.trim.ensures.kept c.trim.ensures.trimmed
    ∙ ap (watch_ended c.args.place c.args.txn) c.self.view_is
