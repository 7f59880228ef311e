use Rattle.std.proofs.Common.{◌∙◌, Bool, List, ℕ, Ok, sym, subst}
use Rattle.http_frame.specs.Answers.{TakesWithin}
use Rattle.http_frame.specs.Streams.{Holds}
use Rattle.http_frame.specs.declared.framing.Framing.TheVariants.{Chunked}
use Rattle.http_frame.proofs.TurnLemmas.{holds, next_turn, done_turn, broken_turn, long_turn, ends_here, fails_here}
use Rattle.http_frame.proofs.chunked_body.take_chunked.Goals as goal

pub returns-in-Ok-false-clause-body : goal.returns-in-Ok-false-clause-body
returns-in-Ok-false-clause-body g c = λ b s.
    let held = c.hold.new.buffer in
    let left = g.S.Source.left c.hold.new.source in
    let some = subst (λ (z : Bool). Holds held left z) c.in-Ok-false.field-0-test c.in-Ok-false.ensures.some in
    let now = holds c.args.most b c.read.buffer held (g.S.Source.left c.read.source) left c.read.body.items c.read.place c.read.room c.in-Ok-false.ensures.stream (c.read.invariant.stream b s) in
    ends_here c.args.most b held c.read.body.items left c.read.place c.read.room now some.0 some.1

pub returns-in-Err-clause-body : goal.returns-in-Err-clause-body
returns-in-Err-clause-body g c = λ b s.
    let held = c.hold.new.buffer in
    let left = g.S.Source.left c.hold.new.source in
    let now = holds c.args.most b c.read.buffer held (g.S.Source.left c.read.source) left c.read.body.items c.read.place c.read.room c.in-Err.ensures.stream (c.read.invariant.stream b s) in
    fails_here c.args.most b held c.read.body.items left c.read.place c.read.room now c.in-Err.ensures.none

pub read-preserved : goal.read-preserved
read-preserved g c =
    let turn = rw c.in-Ok-Next.field-0-is at c.in-Ok-Next.ensures in
    record {
      stream = λ b s.
          let now = holds c.args.most b c.read.buffer c.hold.new.buffer (g.S.Source.left c.read.source) (g.S.Source.left c.hold.new.source) c.read.body.items c.read.place c.read.room c.in-Ok-true.ensures.stream (c.read.invariant.stream b s) in
          next_turn c.args.most b c.hold.new.buffer c.turn.new.buffer c.read.body.items c.turn.new.body.items (g.S.Source.left c.hold.new.source) c.read.place c.in-Ok-Next.next c.read.room c.in-Ok-Next.left now turn;
      place = turn.2.3;
      faults = c.in-Ok-true.ensures.cause.kept ∙ c.read.invariant.faults;
      sound = λ h. (c.in-Ok-true.ensures.sound (c.read.invariant.sound h)).1;
    }

pub returns-in-Ok-Done-clause-body : goal.returns-in-Ok-Done-clause-body
returns-in-Ok-Done-clause-body g c = λ b s.
    let turn = rw c.in-Ok-Done.field-0-is at c.in-Ok-Done.ensures in
    let left = g.S.Source.left c.hold.new.source in
    let now = holds c.args.most b c.read.buffer c.hold.new.buffer (g.S.Source.left c.read.source) left c.read.body.items c.read.place c.read.room c.in-Ok-true.ensures.stream (c.read.invariant.stream b s) in
    subst (λ (z : List ℕ). TakesWithin c.args.most Chunked b c.turn.new.buffer left (Ok z)) (sym c.from_vec.ensures)
    (done_turn c.args.most b c.hold.new.buffer c.turn.new.buffer c.read.body.items c.turn.new.body.items left c.read.place c.read.room now turn)

pub returns-in-Ok-Broken-clause-body : goal.returns-in-Ok-Broken-clause-body
returns-in-Ok-Broken-clause-body g c = λ b s.
    let turn = rw c.in-Ok-Broken.field-0-is at c.in-Ok-Broken.ensures in
    let left = g.S.Source.left c.hold.new.source in
    let now = holds c.args.most b c.read.buffer c.hold.new.buffer (g.S.Source.left c.read.source) left c.read.body.items c.read.place c.read.room c.in-Ok-true.ensures.stream (c.read.invariant.stream b s) in
    broken_turn c.args.most b c.hold.new.buffer c.turn.new.buffer c.read.body.items c.turn.new.body.items left c.read.place c.read.room now turn

pub returns-in-Ok-Long-clause-body : goal.returns-in-Ok-Long-clause-body
returns-in-Ok-Long-clause-body g c = λ b s.
    let turn = rw c.in-Ok-Long.field-0-is at c.in-Ok-Long.ensures in
    let left = g.S.Source.left c.hold.new.source in
    let now = holds c.args.most b c.read.buffer c.hold.new.buffer (g.S.Source.left c.read.source) left c.read.body.items c.read.place c.read.room c.in-Ok-true.ensures.stream (c.read.invariant.stream b s) in
    long_turn c.args.most b c.hold.new.buffer c.turn.new.buffer c.read.body.items c.turn.new.body.items left c.read.place c.read.room now turn
