use Rattle.std.proofs.Common.{◌∙◌}
use Rattle.std.specs.BTreeMap.{insert_entry}
use Rattle.rdf_term.specs.TextOrder.{text_cmp}
use Rattle.iso_txn.proofs.PrefixLemmas.{put_is}
use Rattle.iso_txn.proofs.prefixes.Prefixes.put.Goals as goal

pub returns-clause-ok : goal.returns-clause-ok
returns-clause-ok c =
    c.in_ok-insert.ensures.entries
    ∙ ((λ i. insert_entry text_cmp (c.self.view_is i) (c.in_ok-prefix.ensures i) (c.in_ok-name.ensures i))
    ∙ put_is c.args.prefix.now c.args.name.now c.args.self.now)
