use Rattle.std.proofs.Common.{◌≡◌, ◌+◌, drop, length}
use denote.Text.{Utf8}
use denote.Shadow.{shadow}
use Rattle.std.specs.Str.{chars}
use Rattle.query_tokens.specs.declared.state.State.TheVariants as state
use Rattle.query_tokens.specs.Scanner.{longest, or_later}
use Rattle.query_tokens.proofs.Prefixes.{Going}
use Rattle.query_tokens.proofs.scan.longest.Given as goal

abbrev pub invariant-loop-c : goal.invariant-loop-c
invariant-loop-c l =
    shadow (Utf8 l.left) × (chars l.left ≡ drop l.i (chars l.text)) × (l.i + length (chars l.left) ≡ length (chars l.text))
    × (longest state.Start (chars l.text) ≡ or_later l.best l.i (longest l.state (drop l.i (chars l.text)))) × Going (chars l.text) l.i l.named l.state

abbrev pub decreases-loop-c : goal.decreases-loop-c
decreases-loop-c l = length (chars l.left)
