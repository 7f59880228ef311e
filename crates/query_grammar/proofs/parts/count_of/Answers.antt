use Rattle.std.proofs.Common.{◌∙◌, ap, sym}
use Rattle.query_grammar.specs.Values.{is_count}
use Rattle.query_grammar.proofs.Counts.{counted_ok, counted_err}
use Rattle.query_grammar.proofs.parts.count_of.Goals as goal

pub returns-in-Ok : goal.returns-in-Ok
returns-in-Ok c =
    counted_ok c.args.digits.now c.parse.result _ c.parse.ensures.value.0 (sym (ap is_count c.as_bytes.ensures.value) ∙ sym c.is_count.ensures ∙ c.if-is_count.true) c.in-Ok.is

pub returns-in-Err : goal.returns-in-Err
returns-in-Err c =
    absurd (counted_err c.args.digits.now c.parse.result _ c.parse.ensures.value.0 (sym (ap is_count c.as_bytes.ensures.value) ∙ sym c.is_count.ensures ∙ c.if-is_count.true) c.in-Err.is)
