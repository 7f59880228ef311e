use Rattle.std.proofs.Common.{[]}
use Rattle.rdf_client.proofs.TurnLemmas.{not_answered, puts_none, shown_in_part, shown_whole}
use Rattle.rdf_client.proofs.turn.answer.Goals as goal

pub returns-in-Ok-show-clause-answer : goal.returns-in-Ok-show-clause-answer
returns-in-Ok-show-clause-answer g c = λ b s.
    let asked = c.in-Ok.ensures.sent in
    let told = c.in-Ok-show.ensures.text in (
      asked.0,
      told.0,
      asked.2,
      told.2,
      shown_whole c.args.host.now c.args.call.now c.args.txn b c.exchange.new.frames.held (g.S.Source.left c.exchange.new.source) c.in-Ok.got c.behind.result asked.0 told.0
          c.behind.ensures.value asked.1 told.1 (c.in-Ok.ensures.answer b s),
    )

pub returns-in-Ok-clause-answer : goal.returns-in-Ok-clause-answer
returns-in-Ok-clause-answer g c = λ b s.
    let asked = c.in-Ok.ensures.sent in
    let told = c.in-Err-show.ensures.text in (
      asked.0,
      told.0,
      asked.2,
      told.2,
      shown_in_part c.args.host.now c.args.call.now c.args.txn b c.exchange.new.frames.held (g.S.Source.left c.exchange.new.source) c.in-Ok.got c.in-Err-show.end asked.0 told.0 asked.1 told.1
          (c.in-Ok.ensures.answer b s),
    )

pub returns-clause-answer : goal.returns-clause-answer
returns-clause-answer g c = λ b s.
    let asked = c.in-Err.ensures.sent in (
      asked.0,
      [],
      asked.2,
      puts_none (g.O.Sink.taken c.args.out.now),
      not_answered c.args.host.now c.args.call.now c.args.txn b c.exchange.new.frames.held (g.S.Source.left c.exchange.new.source) c.in-Err.end asked.0 asked.1
          (c.in-Err.ensures.answer b s),
    )
