use Rattle.std.proofs.Common.{[], ◌∙◌, sym, inr}
use Rattle.client_script.specs.declared.action.Action.TheVariants as actions
use Rattle.rdf_client.proofs.SpellableLemmas.{spellable}
use Rattle.rdf_client.proofs.TurnLemmas.{asks_for, bad_line_ends, call_acts, puts_none, skip_acts}
use Rattle.rdf_client.proofs.turn.act.Goals as goal

pub answer-requires-clause-call : goal.answer-requires-clause-call
answer-requires-clause-call g c =
    spellable c.args.repo.now c.args.txn c.args.command c.in-Ok-Send.call c.requires.repo c.requires.txn c.requires.command
    (sym c.in-Ok-Send.ensures ∙ c.in-Ok-Send.field-0-is)

pub returns-in-Ok-Skip-clause-acts : goal.returns-in-Ok-Skip-clause-acts
returns-in-Ok-Skip-clause-acts g c = λ at rest next same n s. (
  [],
  [],
  puts_none (g.K.Sink.taken c.args.sink.now),
  puts_none (g.O.Sink.taken c.args.out.now),
  skip_acts c.args.repo.now c.args.host.now at rest c.args.frames.now.held (g.S.Source.left c.args.source.now) c.args.txn
      (asks_for c.args.repo.now at c.args.command rest c.args.txn c.in-Ok-Skip.field-0 actions.Skip next same c.in-Ok-Skip.ensures c.in-Ok-Skip.field-0-is) same s,
)

pub returns-in-Ok-Refuse-clause-acts : goal.returns-in-Ok-Refuse-clause-acts
returns-in-Ok-Refuse-clause-acts g c = λ at rest next same n s.
    let told = c.bad_line.ensures.text in (
      [],
      told.0,
      puts_none (g.K.Sink.taken c.args.sink.now),
      told.2,
      bad_line_ends c.args.repo.now c.args.host.now at c.args.number c.bad_line.result told.0 n
          (inr (rest, asks_for c.args.repo.now at c.args.command rest c.args.txn c.in-Ok-Refuse.field-0 actions.Refuse next same c.in-Ok-Refuse.ensures c.in-Ok-Refuse.field-0-is)) told.1,
    )

pub returns-in-Ok-Send-clause-acts : goal.returns-in-Ok-Send-clause-acts
returns-in-Ok-Send-clause-acts g c = λ at rest next same n s.
    let did = c.answer.ensures.answer at.responses s in (
      did.0,
      did.1,
      did.2,
      did.3,
      call_acts c.args.repo.now c.args.host.now at rest c.answer.new.frames.held (g.S.Source.left c.answer.new.source) c.in-Ok-Send.call c.args.txn c.answer.result did.0 did.1
          (asks_for c.args.repo.now at c.args.command rest c.args.txn c.in-Ok-Send.field-0 (actions.Send c.in-Ok-Send.call) next same c.in-Ok-Send.ensures c.in-Ok-Send.field-0-is) same did.4,
    )
