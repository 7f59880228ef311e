use Rattle.std.proofs.Common.{◌∙◌}
use Rattle.http_frame.specs.Fields.{is_named}
use Rattle.http_frame.proofs.FieldLemmas.{count_values}
use Rattle.http_frame.proofs.fields.count_named.Goals as goal

pub returns-clause-values : goal.returns-clause-values
returns-clause-values c = c.count.ensures ∙ count_values (is_named c.args.name.now) c.args.fields.now
