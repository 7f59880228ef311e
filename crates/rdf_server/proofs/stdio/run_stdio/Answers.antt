use Rattle.std.proofs.Common.{Bool, refl, sym, subst, ◌∙◌}
use Rattle.session.specs.Causes.{Caused}
use Rattle.rdf_server.proofs.RunLemmas.{found_words, not_two, ran_for, same_ids, whole_run, whole_status}
use Rattle.rdf_server.proofs.stdio.run_stdio.Goals as goal

pub returns-in-None-clause-words : goal.returns-in-None-clause-words
returns-in-None-clause-words g c = (λ five. c.in-None.ensures.none, λ none. refl)

pub returns-in-Some-clause-words : goal.returns-in-Some-clause-words
returns-in-Some-clause-words g c =
    let s = c.in-Some.ensures.some in (
      λ five. absurd (c.status_of.ensures.words five),
      λ none. absurd (none s.1.0 c.in-Some.ids.now (found_words c.args.words.now c.in-Some.options.now c.in-Some.ids.now s.1.0 s.0 s.1.1 s.1.2 s.2)),
    )

pub returns-in-None-clause-run : goal.returns-in-None-clause-run
returns-in-None-clause-run g c = λ orders ids it. absurd (c.in-None.ensures.none orders ids it)

pub returns-in-Some-clause-run : goal.returns-in-Some-clause-run
returns-in-Some-clause-run g c = λ orders ids it.
    let s = c.in-Some.ensures.some in (
      c.run_session.result,
      c.status_of.ensures.status,
      ran_for c.in-Some.ids.now ids (g.S.Source.left c.args.source.now) (g.S.Source.left c.run_session.new.source) (g.K.Sink.taken c.args.sink.now) (g.K.Sink.taken c.run_session.new.sink)
          c.run_session.result (same_ids c.args.words.now c.in-Some.options.now c.in-Some.ids.now s.1.0 s.0 s.1.1 s.2 orders ids it) c.run_session.ensures.run,
    )

pub returns-in-Some-clause-whole : goal.returns-in-Some-clause-whole
returns-in-Some-clause-whole g c = λ b n told all few sound whole.
    whole_status c.run_session.result c.status_of.result c.status_of.ensures.status
    (whole_run c.whole_streams_end_done.ensures c.in-Some.ids.now (g.S.Source.left c.args.source.now) (g.S.Source.left c.run_session.new.source) (g.K.Sink.taken c.args.sink.now)
    (g.K.Sink.taken c.run_session.new.sink) c.run_session.result (g.S.Source.faults c.args.source.now) (g.S.Source.faults c.run_session.new.source) (g.K.Sink.faults c.args.sink.now)
    (g.K.Sink.faults c.run_session.new.sink) c.run_session.ensures.run c.run_session.ensures.source c.run_session.ensures.sink b n told all few sound whole)

pub returns-in-Some-clause-source : goal.returns-in-Some-clause-source
returns-in-Some-clause-source g c =
    subst (λ (broke : Bool). Caused broke (g.S.Source.faults c.args.source.now) (g.S.Source.faults c.run_session.new.source)) (sym c.status_of.ensures.source) c.run_session.ensures.source

pub returns-in-Some-clause-sink : goal.returns-in-Some-clause-sink
returns-in-Some-clause-sink g c =
    subst (λ (broke : Bool). Caused broke (g.K.Sink.faults c.args.sink.now) (g.K.Sink.faults c.run_session.new.sink)) (sym c.status_of.ensures.sink) c.run_session.ensures.sink

pub returns-in-Some-clause-sound : goal.returns-in-Some-clause-sound
returns-in-Some-clause-sound g c = λ sound.
    let s = c.run_session.ensures.sound sound in
    (λ two. not_two c.run_session.result s.0 (sym c.status_of.ensures.status ∙ two), s.1)
