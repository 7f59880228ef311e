use Rattle.std.proofs.Common.{Err, ◌∙◌, ap}
use Rattle.api_parts.proofs.SelectionLemmas.{too_long}
use Rattle.api_parts.proofs.selection.short_term.Goals as goal

pub returns-in-Err-BadTerm-clause-none : goal.returns-in-Err-BadTerm-clause-none
returns-in-Err-BadTerm-clause-none c = λ t is short. c.read_term.ensures.bad (c.in-Err-BadTerm.is ∙ ap Err c.in-Err-BadTerm.field-0-is) t is

pub returns-in-Err-TooLong-clause-none : goal.returns-in-Err-TooLong-clause-none
returns-in-Err-TooLong-clause-none c =
    λ t is short. too_long c.args.value.now t (c.read_term.ensures.long (c.in-Err-TooLong.is ∙ ap Err c.in-Err-TooLong.field-0-is)) is short
