use Rattle.shared_session.specs.Houses.{journals, numbers}
use Rattle.session.specs.Turns.{ground}
use Rattle.worker_pool.proofs.DoorLemmas.{linked_one}
use Rattle.worker_pool.proofs.connections.serve_next.Goals as goal

pub returns-in-Ok-Some-clause-next : goal.returns-in-Ok-Some-clause-next
returns-in-Ok-Some-clause-next g c = (
  c.serve_shared-report.ensures.moves,
  linked_one (ground c.args.house.now.names c.args.house.now.limits (journals c.serve_shared-report.new.passes) (numbers c.args.passes.now))
      (g.D.Door.links c.args.door.now) (g.D.Door.links c.accept.new.self) (g.D.Door.links c.give_back.new.self)
      (g.D.Door.backs c.args.door.now) (g.D.Door.backs c.accept.new.self) (g.D.Door.backs c.give_back.new.self)
      (g.D.In.Source.left c.in-Ok-Some.input) (g.D.In.Source.left c.serve_shared-report.new.source)
      (g.D.Out.Sink.taken c.in-Ok-Some.output) (g.D.Out.Sink.taken c.serve_shared-report.new.sink)
      (g.D.In.Source.sound c.in-Ok-Some.input) (g.D.In.Source.sound c.serve_shared-report.new.source) c.serve_shared-report.result
      (rw c.in-Ok-Some.field-0-is at c.in-Ok-Some.ensures.first) (rw c.in-Ok-Some.field-0-is at c.in-Ok-Some.ensures.empty) c.in-Ok-Some.ensures.backs
      c.serve_shared-report.ensures.session c.serve_shared-report.ensures.sound c.give_back.ensures.links c.give_back.ensures.backs,
)
