use Rattle.std.proofs.Common.{◌∙◌, refl, sym, arith}
use Rattle.http_frame.proofs.ResponseLemmas.{passes_nothing, passes_head, one_too_many, nothing_behind, no_head_behind}
use Rattle.http_frame.proofs.response.cut_final_head.Goals as goal

pub pass-init : goal.pass-init
pass-init g c = record {
  stream = λ b s. (b, passes_nothing b, s);
  few = omega arith;
  faults = refl;
  sound = λ h. h;
}

pub returns-then-not-is_informational-clause-head :
    goal.returns-then-not-is_informational-clause-head
returns-then-not-is_informational-clause-head g c = λ b s.
    let at = c.pass.invariant.stream b s in
    let next = (rw c.in-Ok-Some.field-0-is at c.in-Ok-Some.ensures.head) at.0 at.2 in
    (at.0, record { passed = c.pass.passed; few = c.pass.invariant.few; passes = at.1 }, sym c.is_informational.ensures ∙ c.if-not-is_informational.true, next.0, next.1, next.2)

pub returns-then-passed-ge-MOST_INFORMATIONAL-clause-head :
    goal.returns-then-passed-ge-MOST_INFORMATIONAL-clause-head
returns-then-passed-ge-MOST_INFORMATIONAL-clause-head g c = λ b s.
    let at = c.pass.invariant.stream b s in
    let next = (rw c.in-Ok-Some.field-0-is at c.in-Ok-Some.ensures.head) at.0 at.2 in
    let few = c.pass.invariant.few in
    one_too_many c.pass.passed b at.0 c.in-Ok-Some.head next.0 (omega (arith, c.if-passed-ge-MOST_INFORMATIONAL.true)) at.1 next.1
    (sym c.is_informational.ensures ∙ c.if-not-is_informational.false)

pub pass-preserved : goal.pass-preserved
pass-preserved g c = record {
  stream = λ b s.
      let at = c.pass.invariant.stream b s in
      let next = (rw c.in-Ok-Some.field-0-is at c.in-Ok-Some.ensures.head) at.0 at.2 in
      (next.0, passes_head c.pass.passed b at.0 c.in-Ok-Some.head next.0 at.1 next.1 (sym c.is_informational.ensures ∙ c.if-not-is_informational.false), next.2);
  few = omega (arith, c.if-passed-ge-MOST_INFORMATIONAL.false);
  faults = c.in-Ok-Some.ensures.cause.kept (λ e. cc) ∙ c.pass.invariant.faults;
  sound = λ h. (c.in-Ok-Some.ensures.sound (c.pass.invariant.sound h)).1;
}

pub returns-in-Ok-None-clause-head : goal.returns-in-Ok-None-clause-head
returns-in-Ok-None-clause-head g c = λ b s.
    let at = c.pass.invariant.stream b s in
    let end = (rw c.in-Ok-None.field-0-is at c.in-Ok-None.ensures.head) at.0 at.2 in
    (nothing_behind c.pass.passed b at.0 c.pass.invariant.few at.1 end.0, end.1)

pub returns-in-Err-clause-head : goal.returns-in-Err-clause-head
returns-in-Err-clause-head g c = λ b s.
    let at = c.pass.invariant.stream b s in
    no_head_behind c.in-Err.fault c.pass.passed b at.0 c.cut_status_head.new.buffer (g.S.Source.left c.cut_status_head.new.source) c.pass.invariant.few at.1
    (c.in-Err.ensures.head at.0 at.2)
