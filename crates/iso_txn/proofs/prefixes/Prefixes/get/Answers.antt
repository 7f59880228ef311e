use Rattle.std.proofs.Common.{◌≡◌, None, Some, ap, rules, sym, ◌∙◌}
use Rattle.std.specs.BTreeMap.{is_at}
use Rattle.std.specs.Map.{lookup}
use Rattle.rdf_term.specs.TextOrder.{text_cmp}
use Rattle.iso_txn.proofs.PrefixLemmas.{get_is, name_found}
use Rattle.iso_txn.proofs.prefixes.Prefixes.get.Goals as goal

pub returns-in_ok-copy-in-Some : goal.returns-in_ok-copy-in-Some
returns-in_ok-copy-in-Some c =
    let found : lookup (is_at (text_cmp c.args.prefix.now)) c.args.self.now ≡ Some c.in_ok-copy-in-Some.field-0 = search rules in
    sym (get_is c.args.prefix.now c.args.self.now ∙ ap name_found found)

pub returns-in-None : goal.returns-in-None
returns-in-None c =
    let found : lookup (is_at (text_cmp c.args.prefix.now)) c.args.self.now ≡ None = search rules in
    sym (get_is c.args.prefix.now c.args.self.now ∙ ap name_found found)
