use Rattle.std.proofs.Common.{◌≡◌, map}
use Rattle.api_paths.specs.Targets.{texts_of}
use Rattle.api_paths.proofs.target.segments.Given as goal

abbrev pub invariant-loop-piece : goal.invariant-loop-piece
invariant-loop-piece l = l.texts ≡ texts_of (map (λ piece. piece.now) l.yielded)
