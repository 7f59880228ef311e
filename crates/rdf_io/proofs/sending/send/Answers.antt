use Rattle.std.proofs.Common.{◌+◌, take, arith, length-drop, ◌∙◌}
use Rattle.rdf_io.proofs.SendLemmas.{puts_part, puts_kept, part_of}
use Rattle.rdf_io.proofs.sending.send.Goals as goal

pub loop-at-preserved : goal.loop-at-preserved
loop-at-preserved g c = record {
  sent = puts_part (g.K.Sink.taken c.args.sink.now) (g.K.Sink.taken c.loop-at.sink) (g.K.Sink.taken c.write_from.new.sink) c.args.text.now c.loop-at.at c.in-Ok.count c.loop-at.invariant.sent c.in-Ok.ensures.bytes.2;
  room = omega (arith, length-drop c.loop-at.at c.args.text.now, c.in-Ok.ensures.bytes.0);
  faults = c.in-Ok.ensures.cause.kept ∙ c.loop-at.invariant.faults;
}

pub returns-in-Err-clause-text : goal.returns-in-Err-clause-text
returns-in-Err-clause-text g c =
    let part = c.in-Err.ensures.bytes in
    let at = c.loop-at.at + part.0 in (
      take at c.args.text.now,
      part_of at c.args.text.now,
      puts_part (g.K.Sink.taken c.args.sink.now) (g.K.Sink.taken c.loop-at.sink) (g.K.Sink.taken c.write_from.new.sink) c.args.text.now c.loop-at.at part.0 c.loop-at.invariant.sent part.2,
    )

pub returns-in-Err-flush-clause-text : goal.returns-in-Err-flush-clause-text
returns-in-Err-flush-clause-text g c = (
  take c.loop-at.at c.args.text.now,
  part_of c.loop-at.at c.args.text.now,
  puts_kept (g.K.Sink.taken c.args.sink.now) (g.K.Sink.taken c.loop-at.sink) (g.K.Sink.taken c.flush.new.self) (take c.loop-at.at c.args.text.now) c.loop-at.invariant.sent c.in-Err-flush.ensures.bytes,
)
