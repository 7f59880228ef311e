use Rattle.std.proofs.Common.{◌≡◌, [], fold, map}
use Rattle.api_paths.proofs.level.last_part.Given as goal

abbrev pub invariant-loop-part : goal.invariant-loop-part
invariant-loop-part l = l.last ≡ fold (λ before part. part) [] (map (λ part. part.now) l.yielded)
