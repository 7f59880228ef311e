use Rattle.std.proofs.Common.{◌≡◌, ◌-◌, ◌^◌, min, length, take}
use Rattle.std.specs.List.{flat_map}
use Rattle.rdf_term.specs.Canonical.{escaped}
use Rattle.nquads_line.proofs.lengths.escaped_bytes.Given as goal

abbrev pub invariant-loop-byte : goal.invariant-loop-byte
invariant-loop-byte l = l.bytes ≡ min (length (flat_map escaped (take l.byte-index l.text))) (2 ^ 64 - 1)
