use Rattle.std.proofs.Common.{◌≡◌, length}
use Rattle.nquads_line.specs.Reading.{with_front, body_at}
use Rattle.nquads_line.proofs.escape.body.Given as goal

abbrev pub invariant-loop-first : goal.invariant-loop-first
invariant-loop-first l = with_front l.text (body_at l.form l.rest 0) ≡ body_at l.form l.chars 0

abbrev pub decreases-loop-first : goal.decreases-loop-first
decreases-loop-first l = length l.rest
