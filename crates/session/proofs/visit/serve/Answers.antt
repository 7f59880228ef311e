use Rattle.session.proofs.SessionLemmas.{session_none}
use Rattle.session.proofs.visit.serve.Goals as goal

pub returns-in-Err-clause-session : goal.returns-in-Err-clause-session
returns-in-Err-clause-session g c = λ b s.
    session_none (g.T.Store.names c.args.store.now) (g.T.Store.limits c.args.store.now) (g.T.Store.seats c.args.pass.now) b (g.S.Source.left c.args.source.now) (g.T.Store.journals c.args.pass.now)
    c.new-turns.result.items c.new-marks.result.items (g.K.Sink.taken c.args.sink.now) c.new-turns.ensures.items c.new-marks.ensures.items
