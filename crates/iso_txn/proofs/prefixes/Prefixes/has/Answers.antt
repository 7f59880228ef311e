use Rattle.std.proofs.Common.{ap, ◌∙◌}
use Rattle.std.specs.Option.{is_some}
use Rattle.std.specs.BTreeMap.{is_at}
use Rattle.std.specs.Map.{lookup}
use Rattle.rdf_term.specs.TextOrder.{text_cmp}
use Rattle.iso_txn.proofs.PrefixLemmas.{has_is}
use Rattle.iso_txn.proofs.prefixes.Prefixes.has.Goals as goal

pub returns : goal.returns
returns c =
    c.contains_key.ensures
    ∙ (ap (λ pairs. is_some (lookup (is_at (text_cmp c.args.prefix.now)) pairs)) c.self.view_is
    ∙ has_is c.args.prefix.now c.args.self.now)
