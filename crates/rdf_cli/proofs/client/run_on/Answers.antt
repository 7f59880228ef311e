use Rattle.rdf_cli.proofs.RunLemmas.{ran}
use Rattle.rdf_cli.proofs.client.run_on.Goals as goal

pub returns-in-Ok-clause-run : goal.returns-in-Ok-clause-run
returns-in-Ok-clause-run g c = λ script told tooks of_input of_links of_backs dialed.
    ran c.args.server.now c.args.repo.now c.run_script-end.result c.status_of.result (g.I.Source.left c.args.input.now) (g.D.In.Source.left c.in-Ok.source) (g.D.In.Source.sound c.in-Ok.source)
    (g.D.Dial.links c.args.dial.now) (g.D.Dial.links c.dial.new.self) (g.D.Dial.backs c.args.dial.now) (g.D.Dial.backs c.dial.new.self) (g.D.Dial.backs c.give_back.new.self)
    (g.D.Out.Sink.taken c.in-Ok.sink) (g.D.Out.Sink.taken c.run_script-end.new.sink) (g.O.Sink.taken c.args.out.now) (g.O.Sink.taken c.run_script-end.new.out)
    c.in-Ok.ensures.first c.in-Ok.ensures.empty c.in-Ok.ensures.backs c.give_back.ensures.backs c.run_script-end.ensures.run c.status_of.ensures.value
    script told tooks of_input of_links of_backs
