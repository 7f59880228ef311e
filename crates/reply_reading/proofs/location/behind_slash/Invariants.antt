use Rattle.std.proofs.Common.{◌≡◌, length}
use Rattle.std.specs.Option.{option_copied, option_or}
use Rattle.reply_reading.specs.Locations.{behind_slash}
use Rattle.reply_reading.proofs.location.behind_slash.Given as goal

abbrev pub invariant-loop-first : goal.invariant-loop-first
invariant-loop-first l = option_or (behind_slash l.rest) (option_copied l.last) ≡ behind_slash l.text

abbrev pub decreases-loop-first : goal.decreases-loop-first
decreases-loop-first l = length l.rest
