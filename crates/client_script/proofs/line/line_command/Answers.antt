use Rattle.std.proofs.Common.{ℕ, drop, sym, ap, ◌∙◌}
use Rattle.client_script.proofs.LineLemmas.{commands_of}
use Rattle.client_script.proofs.line.line_command.Goals as goal

pub returns-in-Some : goal.returns-in-Some
returns-in-Some c =
    commands_of c.of_rest.result c.args.line.now c.behind.result.now c.in-Some.verb (sym c.verb_of.ensures ∙ c.in-Some.is)
    (c.behind.ensures ∙ ap (λ (n : ℕ). drop n c.args.line.now) c.rest_at.ensures) c.of_rest.ensures
