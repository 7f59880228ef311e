use Rattle.std.proofs.Common.{ap, sym, subst}
use Rattle.query_grammar.specs.declared.fault.QueryFault.{QueryFault}
use Rattle.query_grammar.specs.Answers.{IsOrMemory}
use Rattle.query_grammar.specs.QueryText.{IsFaultOf}
use Rattle.query_grammar.proofs.ParseLaws.{is_text, only_query, no_fault, no_query, is_fault, only_fault}
use Rattle.query_grammar.proofs.text.parse_query.Goals as goal

pub returns-in-Ok-clause-found : goal.returns-in-Ok-clause-found
returns-in-Ok-clause-found c = is_text c.each_has_tokens.ensures c.args.text.now c.utf8.text c.in-Ok.query c.in-Ok.ensures

pub returns-in-Ok-clause-only : goal.returns-in-Ok-clause-only
returns-in-Ok-clause-only c = λ q w. only_query c.args.text.now c.in-Ok.query q c.in-Ok.ensures w

pub returns-in-Ok-clause-refused : goal.returns-in-Ok-clause-refused
returns-in-Ok-clause-refused c = λ e w. no_fault c.args.text.now c.in-Ok.query e c.in-Ok.ensures w

pub returns-in-Err-Refused-clause-only : goal.returns-in-Err-Refused-clause-only
returns-in-Err-Refused-clause-only c = λ q w. absurd (no_query c.args.text.now c.in-Err-Refused.at c.in-Err-Refused.kind q (rw c.in-Err-Refused.field-0-is at c.in-Err-Refused.ensures) w)

pub returns-in-Err-Refused-clause-fault : goal.returns-in-Err-Refused-clause-fault
returns-in-Err-Refused-clause-fault c =
    subst (IsFaultOf c.args.text.now) (sym c.fault_at.ensures)
    (is_fault c.each_has_tokens.ensures c.args.text.now c.utf8.text c.in-Err-Refused.at c.in-Err-Refused.kind (rw c.in-Err-Refused.field-0-is at c.in-Err-Refused.ensures))

pub returns-in-Err-Refused-clause-refused : goal.returns-in-Err-Refused-clause-refused
returns-in-Err-Refused-clause-refused c = λ e w.
    subst (λ (f : QueryFault). IsOrMemory f e) (sym c.fault_at.ensures)
    (only_fault c.args.text.now c.in-Err-Refused.at c.in-Err-Refused.kind e (rw c.in-Err-Refused.field-0-is at c.in-Err-Refused.ensures) w)
