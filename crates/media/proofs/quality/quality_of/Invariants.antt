use Rattle.std.proofs.Common.{◌≡◌, map}
use Rattle.media.specs.Pieces.{trimmed}
use Rattle.media.specs.Quality.{weight_of}
use Rattle.media.proofs.quality.quality_of.Given as goal

abbrev pub invariant-loop-parameter : goal.invariant-loop-parameter
invariant-loop-parameter l = l.weight ≡ weight_of (map trimmed (map (λ piece. piece.now) l.yielded))
