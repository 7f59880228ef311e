use Rattle.std.proofs.Common.{List, refl, sym, ◌∙◌, subst, arith}
use Rattle.journal.specs.declared.entry.Mark.{Mark}
use Rattle.session.specs.Marks.{Moves}
use Rattle.session.specs.declared.requests.Step.TheVariants.{Answered, Closed, Lost, Stopped}
use Rattle.session.proofs.MarkLemmas.{moves_none}
use Rattle.session.proofs.SessionLemmas.{Stepping, moves_step, so_far_none, so_far_more, session_stopped, session_closed, session_lost, session_limit}
use Rattle.session.proofs.requests.run.Goals as goal

pub loop-turn-init : goal.loop-turn-init
loop-turn-init g c = record {
  serves = c.requires.serves;
  seats = refl;
  moves = subst (λ (z : List Mark). Moves (g.T.Store.seats c.args.pass.now) (g.T.Store.journals c.args.pass.now) (g.T.Store.journals c.args.pass.now) z) (sym c.requires.marks)
      (moves_none (g.T.Store.seats c.args.pass.now) (g.T.Store.journals c.args.pass.now));
  so_far = λ b s. so_far_none (g.T.Store.names c.args.store.now) (g.T.Store.limits c.args.store.now) (g.T.Store.seats c.args.pass.now) b (g.T.Store.journals c.args.pass.now) c.args.turns.now.items c.args.marks.now.items
      (g.K.Sink.taken c.args.sink.now) c.args.frames.now.held (g.S.Source.left c.args.source.now) s c.requires.turns c.requires.marks;
  fault = c.requires.fault;
  room = c.requires.room;
  sources = refl;
  sinks = refl;
  sound = λ h. h;
}

pub loop-turn-preserved : goal.loop-turn-preserved
loop-turn-preserved g c =
    let moved = rw c.loop-turn.invariant.seats at c.in-Answered.ensures.marked in
    record {
      serves = c.in-Answered.ensures.pass.0;
      seats = c.in-Answered.ensures.pass.1 ∙ c.loop-turn.invariant.seats;
      moves = moves_step ((g.T.Store.limits c.args.store.now).places) (g.T.Store.seats c.args.pass.now) (g.T.Store.journals c.args.pass.now) (g.T.Store.journals c.loop-turn.pass) (g.T.Store.journals c.serve_one.new.pass) c.loop-turn.marks.items c.serve_one.new.marks.items
          c.loop-turn.invariant.moves moved;
      so_far = λ b s. so_far_more c.reply_reads_no_later_entry.ensures (g.T.Store.names c.args.store.now) (g.T.Store.limits c.args.store.now) (g.T.Store.seats c.args.pass.now) b (g.T.Store.journals c.loop-turn.pass) (g.T.Store.journals c.serve_one.new.pass)
          c.loop-turn.turns.items c.serve_one.new.turns.items c.loop-turn.marks.items c.serve_one.new.marks.items c.loop-turn.turn
          (g.K.Sink.taken c.args.sink.now) (g.K.Sink.taken c.loop-turn.sink) (g.K.Sink.taken c.serve_one.new.sink) c.loop-turn.frames.held c.serve_one.new.frames.held (g.S.Source.left c.loop-turn.source) (g.S.Source.left c.serve_one.new.source)
          (c.loop-turn.invariant.so_far b s) moved (subst (Stepping (g.T.Store.names c.args.store.now) (g.T.Store.limits c.args.store.now) (g.T.Store.journals c.serve_one.new.pass) c.loop-turn.turns.items c.serve_one.new.turns.items
          c.loop-turn.marks.items c.serve_one.new.marks.items (g.K.Sink.taken c.loop-turn.sink) (g.K.Sink.taken c.serve_one.new.sink) c.loop-turn.frames.held (g.S.Source.left c.loop-turn.source)
          c.serve_one.new.frames.held (g.S.Source.left c.serve_one.new.source) Answered) c.loop-turn.invariant.seats c.in-Answered.ensures.step);
      fault = c.in-Answered.ensures.kept refl;
      room = c.in-Answered.ensures.room;
      sources = c.in-Answered.ensures.source ∙ c.loop-turn.invariant.sources;
      sinks = c.in-Answered.ensures.sink ∙ c.loop-turn.invariant.sinks;
      sound = λ h. (c.in-Answered.ensures.sound (c.loop-turn.invariant.sound h)).1;
    }

pub returns-in-Closed-clause-moves : goal.returns-in-Closed-clause-moves
returns-in-Closed-clause-moves g c =
    moves_step ((g.T.Store.limits c.args.store.now).places) (g.T.Store.seats c.args.pass.now) (g.T.Store.journals c.args.pass.now) (g.T.Store.journals c.loop-turn.pass) (g.T.Store.journals c.serve_one.new.pass) c.loop-turn.marks.items c.serve_one.new.marks.items
    c.loop-turn.invariant.moves (rw c.loop-turn.invariant.seats at c.in-Closed.ensures.marked)

pub returns-in-Closed-clause-session : goal.returns-in-Closed-clause-session
returns-in-Closed-clause-session g c = λ b s.
    let moved = rw c.loop-turn.invariant.seats at c.in-Closed.ensures.marked in
    session_closed c.reply_reads_no_later_entry.ensures (g.T.Store.names c.args.store.now) (g.T.Store.limits c.args.store.now) (g.T.Store.seats c.args.pass.now) b (g.T.Store.journals c.loop-turn.pass) (g.T.Store.journals c.serve_one.new.pass)
    c.loop-turn.turns.items c.serve_one.new.turns.items c.loop-turn.marks.items c.serve_one.new.marks.items c.loop-turn.turn
    (g.K.Sink.taken c.args.sink.now) (g.K.Sink.taken c.loop-turn.sink) (g.K.Sink.taken c.serve_one.new.sink) c.loop-turn.frames.held c.serve_one.new.frames.held (g.S.Source.left c.loop-turn.source) (g.S.Source.left c.serve_one.new.source)
    c.loop-turn-test.true (c.loop-turn.invariant.so_far b s) moved (subst (Stepping (g.T.Store.names c.args.store.now) (g.T.Store.limits c.args.store.now) (g.T.Store.journals c.serve_one.new.pass) c.loop-turn.turns.items c.serve_one.new.turns.items
    c.loop-turn.marks.items c.serve_one.new.marks.items (g.K.Sink.taken c.loop-turn.sink) (g.K.Sink.taken c.serve_one.new.sink) c.loop-turn.frames.held (g.S.Source.left c.loop-turn.source)
    c.serve_one.new.frames.held (g.S.Source.left c.serve_one.new.source) Closed) c.loop-turn.invariant.seats c.in-Closed.ensures.step)

pub returns-in-Lost-clause-moves : goal.returns-in-Lost-clause-moves
returns-in-Lost-clause-moves g c =
    moves_step ((g.T.Store.limits c.args.store.now).places) (g.T.Store.seats c.args.pass.now) (g.T.Store.journals c.args.pass.now) (g.T.Store.journals c.loop-turn.pass) (g.T.Store.journals c.serve_one.new.pass) c.loop-turn.marks.items c.serve_one.new.marks.items
    c.loop-turn.invariant.moves (rw c.loop-turn.invariant.seats at c.in-Lost.ensures.marked)

pub returns-in-Lost-clause-session : goal.returns-in-Lost-clause-session
returns-in-Lost-clause-session g c = λ b s.
    let moved = rw c.loop-turn.invariant.seats at c.in-Lost.ensures.marked in
    session_lost c.reply_reads_no_later_entry.ensures (g.T.Store.names c.args.store.now) (g.T.Store.limits c.args.store.now) (g.T.Store.seats c.args.pass.now) b (g.T.Store.journals c.loop-turn.pass) (g.T.Store.journals c.serve_one.new.pass)
    c.loop-turn.turns.items c.serve_one.new.turns.items c.loop-turn.marks.items c.serve_one.new.marks.items c.loop-turn.turn
    (g.K.Sink.taken c.args.sink.now) (g.K.Sink.taken c.loop-turn.sink) (g.K.Sink.taken c.serve_one.new.sink) c.loop-turn.frames.held c.serve_one.new.frames.held (g.S.Source.left c.loop-turn.source) (g.S.Source.left c.serve_one.new.source)
    c.loop-turn-test.true (c.loop-turn.invariant.so_far b s) moved (subst (Stepping (g.T.Store.names c.args.store.now) (g.T.Store.limits c.args.store.now) (g.T.Store.journals c.serve_one.new.pass) c.loop-turn.turns.items c.serve_one.new.turns.items
    c.loop-turn.marks.items c.serve_one.new.marks.items (g.K.Sink.taken c.loop-turn.sink) (g.K.Sink.taken c.serve_one.new.sink) c.loop-turn.frames.held (g.S.Source.left c.loop-turn.source)
    c.serve_one.new.frames.held (g.S.Source.left c.serve_one.new.source) Lost) c.loop-turn.invariant.seats c.in-Lost.ensures.step)

pub returns-in-Stopped-clause-moves : goal.returns-in-Stopped-clause-moves
returns-in-Stopped-clause-moves g c =
    moves_step ((g.T.Store.limits c.args.store.now).places) (g.T.Store.seats c.args.pass.now) (g.T.Store.journals c.args.pass.now) (g.T.Store.journals c.loop-turn.pass) (g.T.Store.journals c.serve_one.new.pass) c.loop-turn.marks.items c.serve_one.new.marks.items
    c.loop-turn.invariant.moves (rw c.loop-turn.invariant.seats at c.in-Stopped.ensures.marked)

pub returns-in-Stopped-clause-session : goal.returns-in-Stopped-clause-session
returns-in-Stopped-clause-session g c = λ b s.
    let moved = rw c.loop-turn.invariant.seats at c.in-Stopped.ensures.marked in
    session_stopped c.reply_reads_no_later_entry.ensures (g.T.Store.names c.args.store.now) (g.T.Store.limits c.args.store.now) (g.T.Store.seats c.args.pass.now) b (g.T.Store.journals c.loop-turn.pass) (g.T.Store.journals c.serve_one.new.pass)
    c.loop-turn.turns.items c.serve_one.new.turns.items c.loop-turn.marks.items c.serve_one.new.marks.items c.loop-turn.turn
    (g.K.Sink.taken c.args.sink.now) (g.K.Sink.taken c.loop-turn.sink) (g.K.Sink.taken c.serve_one.new.sink) c.loop-turn.frames.held c.serve_one.new.frames.held (g.S.Source.left c.loop-turn.source) (g.S.Source.left c.serve_one.new.source) c.in-Stopped.end
    c.loop-turn-test.true (c.loop-turn.invariant.so_far b s) moved (subst (Stepping (g.T.Store.names c.args.store.now) (g.T.Store.limits c.args.store.now) (g.T.Store.journals c.serve_one.new.pass) c.loop-turn.turns.items c.serve_one.new.turns.items
    c.loop-turn.marks.items c.serve_one.new.marks.items (g.K.Sink.taken c.loop-turn.sink) (g.K.Sink.taken c.serve_one.new.sink) c.loop-turn.frames.held (g.S.Source.left c.loop-turn.source)
    c.serve_one.new.frames.held (g.S.Source.left c.serve_one.new.source) (Stopped c.in-Stopped.end)) c.loop-turn.invariant.seats c.in-Stopped.ensures.step)

pub returns-clause-session : goal.returns-clause-session
returns-clause-session g c = λ b s.
    session_limit (g.T.Store.names c.args.store.now) (g.T.Store.limits c.args.store.now) (g.T.Store.seats c.args.pass.now) b (g.T.Store.journals c.loop-turn.pass) c.loop-turn.turns.items c.loop-turn.marks.items c.loop-turn.turn
    (g.K.Sink.taken c.args.sink.now) (g.K.Sink.taken c.loop-turn.sink) c.loop-turn.frames.held (g.S.Source.left c.loop-turn.source) (omega (arith, c.loop-turn-test.false, c.loop-turn.auto)) (c.loop-turn.invariant.so_far b s)
