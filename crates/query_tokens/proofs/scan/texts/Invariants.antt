use Rattle.std.proofs.Common.{◌≡◌, take}
use denote.Text.{Utf8}
use denote.Shadow.{shadow}
use Rattle.std.specs.Str.{chars}
use Rattle.query_tokens.specs.declared.state.State.TheVariants as state
use Rattle.query_tokens.specs.Scanner.{emitted, in_front}
use Rattle.query_tokens.proofs.scan.texts.Given as goal

abbrev pub invariant-loop-to_come : goal.invariant-loop-to_come
invariant-loop-to_come l =
    shadow (Utf8 l.left)
    × (in_front (record { first = l.first; second = l.second }) (emitted l.state (take l.to_come (chars l.left))) ≡ emitted state.Start (take l.count (chars l.text)))

abbrev pub decreases-loop-to_come : goal.decreases-loop-to_come
decreases-loop-to_come l = l.to_come
