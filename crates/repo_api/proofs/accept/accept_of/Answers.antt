use Rattle.std.proofs.Common.{◌∙◌, sym, ap}
use Rattle.repo_api.specs.Joins.{text_or_empty}
use Rattle.repo_api.proofs.JoinLemmas.{accept_whole}
use Rattle.repo_api.proofs.accept.accept_of.Goals as goal

pub returns-in-None : goal.returns-in-None
returns-in-None c =
    c.new.ensures ∙ sym (ap text_or_empty c.in-None.is)
    ∙ accept_whole c.args.fields.now c.as_slice-field-items.result.now c.loop-field.field-index c.loop-field.joined c.as_slice-field-items.ensures c.loop-field-test.false c.loop-field.invariant

pub returns-in-Some : goal.returns-in-Some
returns-in-Some c =
    sym (ap text_or_empty c.in-Some.is)
    ∙ accept_whole c.args.fields.now c.as_slice-field-items.result.now c.loop-field.field-index c.loop-field.joined c.as_slice-field-items.ensures c.loop-field-test.false c.loop-field.invariant
