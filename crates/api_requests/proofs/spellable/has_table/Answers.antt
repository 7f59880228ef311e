use Rattle.std.proofs.Common.{sym, ◌∙◌}
use Rattle.api_requests.proofs.TestLemmas.{table_told, table_is}
use Rattle.api_requests.proofs.spellable.has_table.Goals as goal

pub returns : goal.returns
returns c = (λ h. table_told c.args.form (sym c.is_table.ensures ∙ h), λ x. c.is_table.ensures ∙ table_is c.args.form x)
