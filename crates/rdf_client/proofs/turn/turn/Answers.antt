use Rattle.std.proofs.Common.{◌≡◌, ◌+◌, ℕ, [], ◌∙◌, refl, subst, inl}
use Rattle.rdf_client.proofs.TurnLemmas.{a_command, bad_command, bad_line_ends, line_turns, no_command, puts_none}
use Rattle.rdf_client.specs.Turning.{PrintsBadLine}
use Rattle.rdf_client.proofs.turn.turn.Goals as goal

pub returns-in-Err-BadLine-clause-turns : goal.returns-in-Err-BadLine-clause-turns
returns-in-Err-BadLine-clause-turns g c = λ at stream number same frames.
    let told = c.bad_line.ensures.text in
    let bad = bad_command c.args.script.now.number at.number at.script c.next_command.new.self (g.I.Source.left c.next_command.new.source) c.in-Err-BadLine.field-0 c.in-Err-BadLine.number
    c.in-Err-BadLine.field-0-is number (c.in-Err-BadLine.ensures.command at.script stream) in (
      [],
      told.0,
      puts_none (g.K.Sink.taken c.args.sink.now),
      told.2,
      bad_line_ends c.args.repo.now c.args.host.now at c.in-Err-BadLine.number c.bad_line.result told.0 bad.0 (inl bad.1)
          (subst (λ (n : ℕ). PrintsBadLine n c.bad_line.result told.0) c.in-Err-BadLine.number-is told.1),
    )

pub returns-in-Ok-None-clause-turns : goal.returns-in-Ok-None-clause-turns
returns-in-Ok-None-clause-turns g c = λ at stream number same frames.
    let none = no_command c.args.script.now.number at.script c.next_command.new.self (g.I.Source.left c.next_command.new.source) c.in-Ok-None.field-0
    c.in-Ok-None.field-0-is (c.in-Ok-None.ensures.command at.script stream) in
    ([], [], puts_none (g.K.Sink.taken c.args.sink.now), puts_none (g.O.Sink.taken c.args.out.now), (refl, refl, inl none))

pub returns-in-Ok-Some-clause-turns : goal.returns-in-Ok-Some-clause-turns
returns-in-Ok-Some-clause-turns g c = λ at stream number same frames.
    let next = a_command c.args.script.now.number at.number at.script c.next_command.new.self (g.I.Source.left c.next_command.new.source) c.in-Ok-Some.field-0 c.in-Ok-Some.command
    c.in-Ok-Some.field-0-is number (c.in-Ok-Some.ensures.command at.script stream) in
    let count : c.next_command.new.self.number ≡ at.number + 1 = next.2 in
    let did = c.act.ensures.acts at next.0 next.1 same (c.number-number.ensures.value ∙ count) frames in (
      did.0,
      did.1,
      did.2,
      did.3,
      line_turns c.args.repo.now c.args.host.now at next.0 c.next_command.new.self (g.I.Source.left c.next_command.new.source) c.act.new.frames.held (g.S.Source.left c.act.new.source) c.act.result did.0 did.1
          count next.3 did.4,
    )
