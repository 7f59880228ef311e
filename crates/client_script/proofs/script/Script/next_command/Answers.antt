use Rattle.std.proofs.Common.{ℕ, ◌+◌, List, length, refl, sym, ap, subst, arith}
use Rattle.client_script.specs.Inputs.{IsStream}
use Rattle.client_script.specs.Scripts.{Reader, IsBad, NextCommand}
use Rattle.client_script.proofs.ScriptLemmas.{bad_long, next_ended, next_over, nothing_left, on_err}
use Rattle.client_script.proofs.script.Script.next_command.Goals as goal

pub overflow_add-end : goal.overflow_add-end
overflow_add-end g c =
    let wait = rw c.in-Ok-Ended.field-0-is at c.in-Ok-Ended.ensures.wait in
    let small = wait.1 in
    omega arith

pub returns-then-end-eq0-clause-command : goal.returns-then-end-eq0-clause-command
returns-then-end-eq0-clause-command g c = λ b st.
    let left = g.I.Source.left c.args.source.now in
    let stream = c.await_line.ensures.stream b (subst (λ (v : Reader). IsStream v.held left b) (sym c.self.view_is) st) in
    let wait = rw c.in-Ok-Over.field-0-is at c.in-Ok-Over.ensures.wait in
    let size = ap length c.as_slice-end.ensures.value in
    let none = nothing_left c.await_line.new.self b (g.I.Source.left c.await_line.new.source) stream (omega arith) wait.1 in
    (none.0, ap (λ (v : Reader). v.number) c.self.view_is, none.1)

pub returns-in-Ok-Full-clause-command : goal.returns-in-Ok-Full-clause-command
returns-in-Ok-Full-clause-command g c = λ b st.
    let left = g.I.Source.left c.args.source.now in
    let stream = c.await_line.ensures.stream b (subst (λ (v : Reader). IsStream v.held left b) (sym c.self.view_is) st) in
    let wait = rw c.in-Ok-Full.field-0-is at c.in-Ok-Full.ensures.wait in (
      ap (λ (v : Reader). v.number + 1) c.self.view_is,
      subst (λ (v : Reader). IsBad v.number b) c.self.view_is
          (bad_long c.await_line.new.self b (g.I.Source.left c.await_line.new.source) c.self.inside.number stream wait.0 wait.1),
    )

pub returns-in-Ok-Ended-clause-command : goal.returns-in-Ok-Ended-clause-command
returns-in-Ok-Ended-clause-command g c =
    let left = g.I.Source.left c.args.source.now in
    let left' = g.I.Source.left c.await_line.new.source in
    let old : Reader = record { held = c.await_line.new.self; number = c.self.inside.number } in
    let wait = rw c.in-Ok-Ended.field-0-is at c.in-Ok-Ended.ensures.wait in
    subst (λ (v : Reader). (b : List ℕ) → IsStream v.held left b → NextCommand v.number b c.take_line.new.self left' c.take_line.result) c.self.view_is
    (λ b st. next_ended old c.take_line.new.self c.in-Ok-Ended.end (c.in-Ok-Ended.end + 1) b left' c.take_line.result (c.await_line.ensures.stream b st) wait.0 refl c.take_line.ensures.taken)

pub returns-in-Ok-Ended-clause-stream : goal.returns-in-Ok-Ended-clause-stream
returns-in-Ok-Ended-clause-stream g c =
    let left = g.I.Source.left c.args.source.now in
    let left' = g.I.Source.left c.await_line.new.source in
    on_err c.take_line.result _ _
    (λ same. λ b st. subst (λ (v : Reader). IsStream v.held left' b) (sym same)
    (c.await_line.ensures.stream b (subst (λ (v : Reader). IsStream v.held left b) (sym c.self.view_is) st)))
    c.take_line.ensures.kept

pub returns-else-end-eq0-clause-command : goal.returns-else-end-eq0-clause-command
returns-else-end-eq0-clause-command g c =
    let left = g.I.Source.left c.args.source.now in
    let left' = g.I.Source.left c.await_line.new.source in
    let old : Reader = record { held = c.await_line.new.self; number = c.self.inside.number } in
    let wait = rw c.in-Ok-Over.field-0-is at c.in-Ok-Over.ensures.wait in
    subst (λ (v : Reader). (b : List ℕ) → IsStream v.held left b → NextCommand v.number b c.take_line-in-Ok-Over.new.self left' c.take_line-in-Ok-Over.result) c.self.view_is
    (λ b st. next_over old c.take_line-in-Ok-Over.new.self (length c.as_slice-end.result.now) b left' c.take_line-in-Ok-Over.result (c.await_line.ensures.stream b st)
    wait.0 wait.1 (ap length c.as_slice-end.ensures.value) (omega arith) c.take_line-in-Ok-Over.ensures.taken)

pub returns-else-end-eq0-clause-stream : goal.returns-else-end-eq0-clause-stream
returns-else-end-eq0-clause-stream g c =
    let left = g.I.Source.left c.args.source.now in
    let left' = g.I.Source.left c.await_line.new.source in
    on_err c.take_line-in-Ok-Over.result _ _
    (λ same. λ b st. subst (λ (v : Reader). IsStream v.held left' b) (sym same)
    (c.await_line.ensures.stream b (subst (λ (v : Reader). IsStream v.held left b) (sym c.self.view_is) st)))
    c.take_line-in-Ok-Over.ensures.kept
