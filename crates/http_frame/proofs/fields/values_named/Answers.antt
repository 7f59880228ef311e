use Rattle.std.proofs.Common.{sym, arith}
use Rattle.http_frame.specs.Fields.{is_named}
use Rattle.http_frame.proofs.FieldLemmas.{no_values, one_value}
use Rattle.http_frame.proofs.fields.values_named.Goals as goal

pub returns-in-None : goal.returns-in-None
returns-in-None c = no_values (is_named c.args.name.now) c.args.fields.now (sym c.in-None.ensures)

pub returns-else-count_named-gt1 : goal.returns-else-count_named-gt1
returns-else-count_named-gt1 c =
    rw c.as_slice.ensures (one_value (is_named c.args.name.now) c.args.fields.now c.in-Some.field.now (sym c.in-Some.ensures) (omega (arith, c.count_named.ensures.values)))
