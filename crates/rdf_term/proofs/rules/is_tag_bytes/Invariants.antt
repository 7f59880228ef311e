use Rattle.std.proofs.Common.{◌≡◌, drop, false}
use Rattle.rdf_term.specs.Classes.{is_letter}
use Rattle.rdf_term.specs.Validity.{is_tag_from}
use Rattle.rdf_term.proofs.TextLemmas.{part_of}
use Rattle.rdf_term.proofs.rules.is_tag_bytes.Given as goal

abbrev pub invariant-loop-byte : goal.invariant-loop-byte
invariant-loop-byte l = is_tag_from l.begun (part_of l.digits) (drop l.byte-index l.bytes) ≡ is_tag_from false is_letter l.bytes
