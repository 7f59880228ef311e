use Rattle.std.proofs.Common.{◌∙◌}
use Rattle.session.specs.Houses.{house_journals}
use Rattle.rdf_server.proofs.RunLemmas.{ran}
use Rattle.rdf_server.proofs.stdio.serve_new.Goals as goal

pub returns-clause-run : goal.returns-clause-run
returns-clause-run g c =
    ran c.args.house.now.names c.serve_local.new.house.names c.serve_local.new.house.limits (house_journals c.args.house.now) (house_journals c.serve_local.new.house) (g.S.Source.left c.args.source.now)
    (g.S.Source.left c.serve_local.new.source) (g.K.Sink.taken c.args.sink.now) (g.K.Sink.taken c.serve_local.new.sink) c.serve_local.result.end
    c.serve_local.result.turns.items c.serve_local.result.marks.items c.serve_local.ensures.house.0 (c.serve_local.ensures.house.1 ∙ c.requires.limits)
    c.requires.journals c.serve_local.ensures.moves c.serve_local.ensures.session

pub returns-clause-source : goal.returns-clause-source
returns-clause-source g c = c.serve_local.ensures.source

pub returns-clause-sink : goal.returns-clause-sink
returns-clause-sink g c = c.serve_local.ensures.sink

pub returns-clause-sound : goal.returns-clause-sound
returns-clause-sound g c = c.serve_local.ensures.sound
