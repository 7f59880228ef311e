use Rattle.std.proofs.Common.{◌≡◌, List, ℕ, None}
use Rattle.http_frame.specs.Streams.{IsStream}
use Rattle.session.specs.Marks.{Moves}
use Rattle.session.specs.Steps.{IsRoom}
use Rattle.session.proofs.SessionLemmas.{SoFar}
use Rattle.session.proofs.requests.run.Given as goal

abbrev pub invariant-loop-turn : goal.invariant-loop-turn
invariant-loop-turn g l = record {
  serves : g.T.Store.serves l.store l.pass;
  seats : g.T.Store.seats l.pass ≡ g.T.Store.seats l.initial.pass;
  moves : Moves (g.T.Store.seats l.initial.pass) (g.T.Store.journals l.initial.pass) (g.T.Store.journals l.pass) l.marks.items;
  so_far : (b : List ℕ) → IsStream l.initial.frames.held (g.S.Source.left l.initial.source) b
      → SoFar (g.T.Store.names l.store) (g.T.Store.limits l.store) (g.T.Store.seats l.initial.pass) b (g.T.Store.journals l.pass) l.turns.items l.marks.items l.turn
      (g.K.Sink.taken l.initial.sink) (g.K.Sink.taken l.sink) l.frames.held (g.S.Source.left l.source);
  fault : l.frames.fault ≡ None;
  room : IsRoom l.room;
  sources : g.S.Source.faults l.source ≡ g.S.Source.faults l.initial.source;
  sinks : g.K.Sink.faults l.sink ≡ g.K.Sink.faults l.initial.sink;
  sound : g.S.Source.sound l.initial.source → g.S.Source.sound l.source;
}
