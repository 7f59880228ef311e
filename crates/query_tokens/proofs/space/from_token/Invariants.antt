use Rattle.std.proofs.Common.{◌≡◌, ◌+◌, drop, length}
use denote.Text.{Utf8}
use denote.Shadow.{shadow}
use Rattle.std.specs.Str.{chars}
use Rattle.query_tokens.specs.Tokens.{behind_space, from_token}
use Rattle.query_tokens.proofs.space.from_token.Given as goal

abbrev pub invariant-loop-c : goal.invariant-loop-c
invariant-loop-c l =
    shadow (Utf8 l.left) × (behind_space l.in_comment (chars l.left) ≡ from_token (chars l.text)) × (chars l.left ≡ drop l.count (chars l.text))
    × (l.count + length (chars l.left) ≡ length (chars l.text))

abbrev pub decreases-loop-c : goal.decreases-loop-c
decreases-loop-c l = length (chars l.left)
