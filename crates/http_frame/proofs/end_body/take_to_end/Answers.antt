use Rattle.std.proofs.Common.{◌≡◌, ◌-◌, ◌<◌, ◌++◌, Bool, List, ℕ, [], Ok, length, sym, ap, ◌∙◌, subst, arith, append-nil, length-append}
use Rattle.http_frame.specs.ResponseAnswers.{TakesToEnd}
use Rattle.http_frame.specs.Streams.{IsStream, Holds}
use Rattle.http_frame.proofs.EndLemmas.{keeps_behind, ended_whole, ended_failed, ended_long}
use Rattle.http_frame.proofs.end_body.take_to_end.Goals as goal

pub returns-in-Ok-false-clause-body : goal.returns-in-Ok-false-clause-body
returns-in-Ok-false-clause-body g c = λ b s.
    let body = c.read.body.items in
    let held = c.hold.new.buffer in
    let left = g.S.Source.left c.hold.new.source in
    let end = subst (λ (z : Bool). Holds held left z) c.in-Ok-false.field-0-test c.in-Ok-false.ensures.some in
    let now = keeps_behind body c.read.buffer held b (g.S.Source.left c.read.source) left c.in-Ok-false.ensures.stream (c.read.invariant.stream b s) in
    subst (λ (z : List ℕ). TakesToEnd c.args.most b held left (Ok z)) (sym c.from_vec.ensures)
    (ended_whole c.args.most body held b left now end.0 end.1 c.read.invariant.few)

pub returns-in-Err-clause-body : goal.returns-in-Err-clause-body
returns-in-Err-clause-body g c = λ b s.
    let body = c.read.body.items in
    let held = c.hold.new.buffer in
    let left = g.S.Source.left c.hold.new.source in
    let now = keeps_behind body c.read.buffer held b (g.S.Source.left c.read.source) left c.in-Err.ensures.stream (c.read.invariant.stream b s) in
    ended_failed c.args.most body held b left now c.in-Err.ensures.none c.read.invariant.few

pub returns-then-as_slice-most-clause-body : goal.returns-then-as_slice-most-clause-body
returns-then-as_slice-most-clause-body g c = λ b s.
    let body = c.read.body.items in
    let held = c.hold.new.buffer in
    let left = g.S.Source.left c.hold.new.source in
    let now = keeps_behind body c.read.buffer held b (g.S.Source.left c.read.source) left c.in-Ok-true.ensures.stream (c.read.invariant.stream b s) in
    let size = ap length c.as_slice.ensures.value in
    let more : c.args.most - length body < length held = omega (arith, c.if-as_slice-most.true, c.len.ensures, c.read.body.ok.0) in
    ended_long c.args.most body held b left now more c.read.invariant.few

pub read-preserved : goal.read-preserved
read-preserved g c =
    let body = c.read.body.items in
    let held = c.hold.new.buffer in
    let left = g.S.Source.left c.hold.new.source in
    let grown = c.in-Ok.ensures.grown in
    let whole : c.take_held.new.body.items ++ c.take_held.new.buffer ≡ body ++ held =
    ap (λ (z : List ℕ). c.take_held.new.body.items ++ z) c.in-Ok.ensures.taken ∙ append-nil c.take_held.new.body.items ∙ grown in
    let size = simp length-append at (ap length grown) in
    let held_size = ap length c.as_slice.ensures.value in
    record {
      stream = λ b s. subst (λ (z : List ℕ). IsStream z left b) (sym whole)
          (keeps_behind body c.read.buffer held b (g.S.Source.left c.read.source) left c.in-Ok-true.ensures.stream (c.read.invariant.stream b s));
      few = omega (arith, c.if-as_slice-most.false, c.len.ensures, c.read.body.ok.0, c.read.invariant.few);
      faults = c.in-Ok-true.ensures.cause.kept ∙ c.read.invariant.faults;
      sound = λ h. (c.in-Ok-true.ensures.sound (c.read.invariant.sound h)).1;
    }
