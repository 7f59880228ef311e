use Rattle.std.proofs.Common.{not, filter, ap, ◌∙◌}
use Rattle.journal.specs.Committed.{is_prefix}
use Rattle.iso_txn.proofs.PrefixLemmas.{remove_is}
use Rattle.iso_txn.proofs.prefixes.Prefixes.remove.Goals as goal

pub returns : goal.returns
returns c =
    c.remove.ensures.entries
    ∙ (remove_is c.args.prefix.now c.self.inside.names.entries c.len.ensures.ordered
    ∙ ap (filter (λ pair. not (is_prefix c.args.prefix.now pair))) c.self.view_is)
