use Rattle.std.proofs.Common.{sym, ◌∙◌}
use Rattle.reply_reading.proofs.CountLemmas.{no_numeral, numeral_utf8}
use Rattle.reply_reading.proofs.count.count_of.Goals as goal

pub returns-then-not-is_numeral : goal.returns-then-not-is_numeral
returns-then-not-is_numeral c = no_numeral c.args.text.now (sym c.is_numeral.ensures ∙ c.if-not-is_numeral.true)

pub returns-in-Err : goal.returns-in-Err
returns-in-Err c = absurd (c.in-Err.ensures.cases.0 (numeral_utf8 c.args.text.now (sym c.is_numeral.ensures ∙ c.if-not-is_numeral.false)))
