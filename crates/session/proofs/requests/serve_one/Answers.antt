use Rattle.std.proofs.Common.{[], refl}
use Rattle.rdf_io.proofs.SendLemmas.{puts_none}
use Rattle.session.proofs.StopLemmas.{stop_at_head}
use Rattle.session.proofs.requests.serve_one.Goals as goal

pub returns-in-Ok-None-clause-step : goal.returns-in-Ok-None-clause-step
returns-in-Ok-None-clause-step g c = λ b s.
    let n = (rw c.in-Ok-None.field-0-is at c.in-Ok-None.ensures.head) c.requires.fault b s in
    ([], puts_none (g.K.Sink.taken c.args.sink.now), (refl, refl, (n.0, refl)))

pub returns-in-Ok-Some-clause-step : goal.returns-in-Ok-Some-clause-step
returns-in-Ok-Some-clause-step g c = λ b s.
    c.serve_head.ensures.step b ((rw c.in-Ok-Some.field-0-is at c.in-Ok-Some.ensures.head) c.requires.fault b s)

pub returns-in-Err-clause-step : goal.returns-in-Err-clause-step
returns-in-Err-clause-step g c = λ b s.
    let a = c.stop.ensures.text in (
      a.0,
      a.1,
      (
        refl,
        refl,
        stop_at_head c.in-Err.fault c.stop.result b a.0 c.next_head.new.self.held (g.S.Source.left c.next_head.new.source)
            (c.in-Err.ensures.head c.requires.fault b s) a.2,
      ),
    )
