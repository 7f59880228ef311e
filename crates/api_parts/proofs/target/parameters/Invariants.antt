use Rattle.std.proofs.Common.{◌≡◌, ◌++◌, map}
use Rattle.form_urlencoded.specs.Form.{raw_pairs}
use Rattle.api_parts.specs.Parameters.{decoded_pair, parameters}
use Rattle.api_parts.proofs.target.parameters.Given as goal

abbrev pub invariant-loop-name : goal.invariant-loop-name
invariant-loop-name l = l.out ++ map decoded_pair (raw_pairs l.name-iterator.input.now) ≡ parameters l.query
