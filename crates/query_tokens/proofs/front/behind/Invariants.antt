use Rattle.std.proofs.Common.{◌≡◌, drop}
use denote.Text.{Utf8}
use denote.Shadow.{shadow}
use Rattle.std.specs.Str.{chars}
use Rattle.query_tokens.proofs.front.behind.Given as goal

abbrev pub invariant-loop-to_come : goal.invariant-loop-to_come
invariant-loop-to_come l = shadow (Utf8 l.left) × (drop l.to_come (chars l.left) ≡ drop l.count (chars l.text))

abbrev pub decreases-loop-to_come : goal.decreases-loop-to_come
decreases-loop-to_come l = l.to_come
