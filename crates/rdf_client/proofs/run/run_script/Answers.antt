use Rattle.std.proofs.Common.{[], ◌++◌, refl, ap, sym, ◌∙◌, inl}
use Rattle.client_script.specs.Scripts.{Reader}
use Rattle.http_frame.specs.State.{FramesState}
use Rattle.rdf_client.specs.Runs.{start, stops}
use Rattle.rdf_client.proofs.RunLemmas.{begun, ended, moved_on, place_behind}
use Rattle.rdf_client.proofs.SpellableLemmas.{id_text}
use Rattle.rdf_client.proofs.TurnLemmas.{puts_more, puts_none}
use Rattle.rdf_client.proofs.run.run_script.Goals as goal

pub returns-in_default-clause-run : goal.returns-in_default-clause-run
returns-in_default-clause-run g c = λ script responses i s.
    ([], [], puts_none (g.K.Sink.taken c.args.sink.now), puts_none (g.O.Sink.taken c.args.out.now), stops (refl, inl refl))

pub lines-init : goal.lines-init
lines-init g c = record {
  run = λ script responses i s. (
    start script responses,
    [],
    [],
    (script, i, sym (ap (λ (r : Reader). r.held ++ script) c.in-Ok.ensures.script)),
    ap (λ (r : Reader). r.number) c.in-Ok.ensures.script,
    refl,
    (responses, s, sym (ap (λ (r : FramesState). r.held ++ responses) c.in-Ok.ensures.frames)),
    puts_none (g.K.Sink.taken c.args.sink.now),
    puts_none (g.O.Sink.taken c.args.out.now),
    begun c.args.repo.now c.args.host.now (start script responses),
  );
  named = tt;
  frames = ap (λ (r : FramesState). r.fault) c.in-Ok.ensures.frames;
  input = refl;
  source = refl;
  sink = refl;
  out = refl;
  sound_input = λ h. h;
  sound_source = λ h. h;
}

pub turn-turned-requires-clause-repo : goal.turn-turned-requires-clause-repo
turn-turned-requires-clause-repo g c = id_text c.args.repo.now c.requires.repo

pub lines-preserved : goal.lines-preserved
lines-preserved g c = record {
  run = λ script responses i s.
      let so_far = c.lines.invariant.run script responses i s in
      let did = c.in-Ok-turned.ensures.turns so_far.0 so_far.3 so_far.4 so_far.5 so_far.6 in (
        place_behind so_far.0 did.4.0 did.4.1 c.in-Ok-turned.next,
        so_far.1 ++ did.0,
        so_far.2 ++ did.1,
        did.4.4,
        did.4.3,
        refl,
        did.4.5,
        puts_more (g.K.Sink.taken c.args.sink.now) (g.K.Sink.taken c.lines.sink) (g.K.Sink.taken c.turn-turned.new.sink) so_far.1 did.0 so_far.7 did.2,
        puts_more (g.O.Sink.taken c.args.out.now) (g.O.Sink.taken c.lines.out) (g.O.Sink.taken c.turn-turned.new.out) so_far.2 did.1 so_far.8 did.3,
        moved_on c.args.repo.now c.args.host.now (start script responses) so_far.0 so_far.1 so_far.2 did.4.0 did.4.1 c.in-Ok-turned.next did.0 did.1 so_far.9 did.4.2,
      );
  named = c.in-Ok-turned.ensures.named;
  frames = c.in-Ok-turned.ensures.frames;
  input = c.in-Ok-turned.ensures.reads.0 ∙ c.lines.invariant.input;
  source = c.in-Ok-turned.ensures.reads.1 ∙ c.lines.invariant.source;
  sink = c.in-Ok-turned.ensures.writes.0 ∙ c.lines.invariant.sink;
  out = c.in-Ok-turned.ensures.writes.1 ∙ c.lines.invariant.out;
  sound_input = λ h. c.in-Ok-turned.ensures.input (c.lines.invariant.sound_input h);
  sound_source = λ h. c.in-Ok-turned.ensures.source (c.lines.invariant.sound_source h);
}

pub returns-in-Err-clause-run : goal.returns-in-Err-clause-run
returns-in-Err-clause-run g c = λ script responses i s.
    let so_far = c.lines.invariant.run script responses i s in
    let did = c.in-Err.ensures.turns so_far.0 so_far.3 so_far.4 so_far.5 so_far.6 in (
      so_far.1 ++ did.0,
      so_far.2 ++ did.1,
      puts_more (g.K.Sink.taken c.args.sink.now) (g.K.Sink.taken c.lines.sink) (g.K.Sink.taken c.turn-turned.new.sink) so_far.1 did.0 so_far.7 did.2,
      puts_more (g.O.Sink.taken c.args.out.now) (g.O.Sink.taken c.lines.out) (g.O.Sink.taken c.turn-turned.new.out) so_far.2 did.1 so_far.8 did.3,
      ended c.args.repo.now c.args.host.now (start script responses) so_far.0 so_far.1 so_far.2 c.in-Err.end did.0 did.1 so_far.9 did.4,
    )
