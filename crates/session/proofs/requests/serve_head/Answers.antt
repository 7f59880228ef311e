use Rattle.std.proofs.Common.{◌++◌, Ok, Err, ap, sym, refl}
use Rattle.http_frame.specs.Wire.{continue_of}
use Rattle.session.specs.Refusals.{asked}
use Rattle.session.specs.Turns.{ground}
use Rattle.rdf_io.proofs.SendLemmas.{puts_more}
use Rattle.session.proofs.StopLemmas.{step_served, stop_asked, stop_at_body}
use Rattle.session.proofs.requests.serve_head.Goals as goal

pub returns-in-Err-clause-step : goal.returns-in-Err-clause-step
returns-in-Err-clause-step g c = λ b h.
    let part = c.in-Err.ensures.text in
    (part.0, part.2, (refl, refl, stop_asked b part.0 c.args.frames.now.held (g.S.Source.left c.args.source.now) (g.S.Source.left c.args.source.now) c.args.head h part.1))

pub returns-in-Ok-read_body-clause-step : goal.returns-in-Ok-read_body-clause-step
returns-in-Ok-read_body-clause-step g c = λ b h.
    let before = continue_of c.args.head in
    let r = c.in-Ok-read_body.request in
    let frame = c.heads_and_bodies_are_frames.ensures.body b c.args.frames.now.held c.read_body.new.self.held (g.S.Source.left c.args.source.now)
    (g.S.Source.left c.read_body.new.source) c.args.head (Ok r) h (λ mid s. c.in-Ok-read_body.ensures.body c.requires.fault mid s) in
    let same = (c.in-Ok-read_body.ensures.body c.requires.fault h.0 h.4).0 in
    let served = c.serve_request.ensures.served in (
      before ++ served.0,
      puts_more (g.K.Sink.taken c.args.sink.now) (g.K.Sink.taken c.ask.new.sink) (g.K.Sink.taken c.serve_request.new.sink) before served.0 c.in-Ok.ensures.text served.1,
      step_served c.serve_request.result (ground (g.T.Store.names c.args.store.now) (g.T.Store.limits c.args.store.now) (g.T.Store.journals c.serve_request.new.pass) (g.T.Store.seats c.args.pass.now))
          b frame.0 r c.args.turns.now.items c.serve_request.new.turns.items c.args.marks.now.items c.serve_request.new.marks.items before served.0 c.read_body.new.self.held
          (g.S.Source.left c.read_body.new.source) frame.1 frame.2 (ap continue_of (sym same)) (asked c.args.head h.0 h.2 h.1 h.3 refl) served.2,
    )

pub returns-in-Err-read_body-clause-step : goal.returns-in-Err-read_body-clause-step
returns-in-Err-read_body-clause-step g c = λ b h.
    let before = continue_of c.args.head in
    let frame = c.heads_and_bodies_are_frames.ensures.body b c.args.frames.now.held c.read_body.new.self.held (g.S.Source.left c.args.source.now)
    (g.S.Source.left c.read_body.new.source) c.args.head (Err c.in-Err-read_body.fault) h (λ mid s. c.in-Err-read_body.ensures.body c.requires.fault mid s) in
    let a = c.stop.ensures.text in (
      before ++ a.0,
      puts_more (g.K.Sink.taken c.args.sink.now) (g.K.Sink.taken c.ask.new.sink) (g.K.Sink.taken c.stop.new.sink) before a.0 c.in-Ok.ensures.text a.1,
      (
        refl,
        refl,
        stop_at_body c.in-Err-read_body.fault c.stop.result b c.args.frames.now.held before a.0 c.read_body.new.self.held (g.S.Source.left c.args.source.now)
            (g.S.Source.left c.read_body.new.source) c.args.head h (λ mid s. c.in-Err-read_body.ensures.body c.requires.fault mid s) frame refl a.2,
      ),
    )
