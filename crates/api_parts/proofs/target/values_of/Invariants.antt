use Rattle.std.proofs.Common.{◌≡◌, take}
use Rattle.api_parts.specs.Parameters.{values_of}
use Rattle.api_parts.proofs.target.values_of.Given as goal

abbrev pub invariant-loop-pair : goal.invariant-loop-pair
invariant-loop-pair l = l.values ≡ values_of l.name (take l.pair-index l.parameters)
