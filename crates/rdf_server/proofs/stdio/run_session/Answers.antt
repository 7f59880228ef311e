use Rattle.rdf_server.proofs.RunLemmas.{none_ran, ran_for}
use Rattle.rdf_server.proofs.stdio.run_session.Goals as goal

pub returns-in-Ok-clause-run : goal.returns-in-Ok-clause-run
returns-in-Ok-clause-run g c =
    ran_for c.in-Ok.house.names c.args.ids.now (g.S.Source.left c.args.source.now) (g.S.Source.left c.serve_new-end.new.source) (g.K.Sink.taken c.args.sink.now) (g.K.Sink.taken c.serve_new-end.new.sink)
    c.serve_new-end.result c.in-Ok.ensures.names c.serve_new-end.ensures.run

pub returns-in-Ok-clause-source : goal.returns-in-Ok-clause-source
returns-in-Ok-clause-source g c = c.serve_new-end.ensures.source

pub returns-in-Ok-clause-sink : goal.returns-in-Ok-clause-sink
returns-in-Ok-clause-sink g c = c.serve_new-end.ensures.sink

pub returns-in-Ok-clause-sound : goal.returns-in-Ok-clause-sound
returns-in-Ok-clause-sound g c = c.serve_new-end.ensures.sound

pub returns-in-Err-clause-run : goal.returns-in-Err-clause-run
returns-in-Err-clause-run g c = none_ran c.args.ids.now (g.S.Source.left c.args.source.now) (g.K.Sink.taken c.args.sink.now)
